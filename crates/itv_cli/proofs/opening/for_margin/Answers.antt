use Rattle.std.proofs.Common.{List, Ok, Option, option_map, refl}
use Rattle.moves.specs.declared.number_seen.NumberSeen.{NumberSeen}
use Rattle.design_reading.specs.FileReading.{gives}
use Rattle.design_reading.proofs.Opens.{opens_stop, opens_then}
use Rattle.itv_cli.specs.Job.{list_at}
use Rattle.itv_cli.specs.declared.ready.Ready.{Ready}
use Rattle.itv_cli.specs.declared.ready.Ready.TheVariants.{Margin}
use Rattle.itv_cli.proofs.opening.for_margin.Goals as goal

pub returns-in-Ok-clause-reads : goal.returns-in-Ok-clause-reads
returns-in-Ok-clause-reads c standing =
    opens_then (λ (n : Option (List NumberSeen)). n) (λ (given : Ready). given) (list_at c.args.drawn (option_map (λ text. text.now) c.args.list))
    (λ numbers. gives (Margin c.args.plan c.args.drawn numbers c.args.budget)) standing standing standing c.in-Ok.numbers (Ok (Margin c.args.plan c.args.drawn c.in-Ok.numbers c.args.budget))
    (c.in-Ok.ensures.reads standing) (refl, refl)

pub returns-in-Err-clause-reads : goal.returns-in-Err-clause-reads
returns-in-Err-clause-reads c standing =
    opens_stop (λ (n : Option (List NumberSeen)). n) (λ (given : Ready). given) (list_at c.args.drawn (option_map (λ text. text.now) c.args.list))
    (λ numbers. gives (Margin c.args.plan c.args.drawn numbers c.args.budget)) standing standing c.in-Err.stop (c.in-Err.ensures.reads standing)
