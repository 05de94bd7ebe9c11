use Rattle.std.proofs.Common.{codes}
use Rattle.design_reading.specs.FileReading.{gives}
use Rattle.itv_cli.specs.declared.ready.Ready.TheVariants.{Generated}
use Rattle.itv_cli.proofs.Steps.{design_up, design_ready}
use Rattle.itv_cli.proofs.opening.open_made.Goals as goal

pub returns-in_err-drawn-clause-opens : goal.returns-in_err-drawn-clause-opens
returns-in_err-drawn-clause-opens g c =
    design_up (codes "bus.json") (λ drawn. gives (Generated drawn c.args.size c.args.budget)) (g.H.Shelf.state c.args.made.now) (g.H.Shelf.state c.open_design.new.shelf) c.in_err-drawn.field-0.0 c.from_residual.result
    c.from_residual.ensures.1 c.in_err-drawn.ensures.opens

pub returns-clause-opens : goal.returns-clause-opens
returns-clause-opens g c =
    design_ready (codes "bus.json") (λ drawn. Generated drawn c.args.size c.args.budget) (g.H.Shelf.state c.args.made.now) (g.H.Shelf.state c.open_design.new.shelf) c.in_ok-drawn.drawn c.in_ok-drawn.ensures.opens
