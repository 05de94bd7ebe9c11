use Rattle.std.proofs.Common.{◌∙◌, Global, Vec, sym}
use Rattle.std.specs.Bool.{⊤}
use Rattle.std.proofs.lemmas.Result.{err_from_is_err_and}
use Rattle.line_words.specs.Views.{texts}
use Rattle.moves.specs.declared.number_seen.NumberSeen.{NumberSeen}
use Rattle.job_margin.specs.Named.{with_named}
use Rattle.job_margin.proofs.Called.{list_next, list_stops}
use Rattle.job_margin.proofs.named.named_numbers.Goals as goal

pub returns-in_err-add_named : goal.returns-in_err-add_named
returns-in_err-add_named c =
    let p = err_from_is_err_and c.from_residual.result c.from_residual.ensures.1 in
    rw (p.1, p.2)
    (list_stops {B = ⊤} {C = Vec NumberSeen Global} (λ _. c.add_named.new.named.items) (λ named. named.items) (with_named c.args.all.now) c.loop-k.k c.loop-k.named.items (texts c.args.names.now) c.name_at.result.now c.in_err-add_named.field-0.0 _ c.name_at.ensures c.in_err-add_named.ensures c.loop-k.invariant)

pub loop-k-preserved : goal.loop-k-preserved
loop-k-preserved c =
    sym (list_next (with_named c.args.all.now) c.loop-k.k c.loop-k.named.items c.add_named.new.named.items (texts c.args.names.now) c.name_at.result.now c.name_at.ensures c.in_ok-add_named.ensures)
    ∙ c.loop-k.invariant
