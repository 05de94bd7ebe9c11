use Rattle.std.proofs.Common.{List, ℕ, Ok, refl}
use Rattle.design_reading.specs.AskedFor.{files_at}
use Rattle.design_reading.specs.FileReading.{gives}
use Rattle.design_reading.proofs.Opens.{opens_then, opens_up}
use Rattle.itv_cli.specs.declared.ready.Ready.{Ready}
use Rattle.itv_cli.specs.declared.ready.Ready.TheVariants.{Files}
use Rattle.itv_cli.proofs.opening.open_names.Goals as goal

pub returns-in_err-names-clause-opens : goal.returns-in_err-names-clause-opens
returns-in_err-names-clause-opens g c =
    opens_up (λ (names : List (List ℕ)). names) (λ (given : Ready). given) (files_at c.args.design.now) (λ names. gives (Files names)) (g.H.Shelf.state c.args.shelf.now) (g.H.Shelf.state c.open_files.new.shelf)
    c.in_err-names.field-0.0 c.from_residual.result c.from_residual.ensures.1 c.in_err-names.ensures.opens

pub returns-clause-opens : goal.returns-clause-opens
returns-clause-opens g c =
    opens_then (λ (names : List (List ℕ)). names) (λ (given : Ready). given) (files_at c.args.design.now) (λ names. gives (Files names)) (g.H.Shelf.state c.args.shelf.now) (g.H.Shelf.state c.open_files.new.shelf)
    (g.H.Shelf.state c.open_files.new.shelf) c.in_ok-names.names (Ok (Files c.in_ok-names.names)) c.in_ok-names.ensures.opens (refl, refl)
