use Rattle.design_reading.specs.FileReading.{gives}
use Rattle.itv_cli.specs.declared.ready.Ready.TheVariants.{Searched}
use Rattle.itv_cli.proofs.Forms.{drawn_has_form}
use Rattle.itv_cli.proofs.Steps.{design_up, design_ready}
use Rattle.itv_cli.proofs.opening.open_searched.Goals as goal

pub returns-in_err-drawn-clause-opens : goal.returns-in_err-drawn-clause-opens
returns-in_err-drawn-clause-opens g c =
    design_up c.args.design.now (λ drawn. gives (Searched drawn c.args.job c.args.budget)) (g.H.Shelf.state c.args.shelf.now) (g.H.Shelf.state c.open_design.new.shelf) c.in_err-drawn.field-0.0 c.from_residual.result
    c.from_residual.ensures.1 c.in_err-drawn.ensures.opens

pub returns-clause-opens : goal.returns-clause-opens
returns-clause-opens g c =
    design_ready c.args.design.now (λ drawn. Searched drawn c.args.job c.args.budget) (g.H.Shelf.state c.args.shelf.now) (g.H.Shelf.state c.open_design.new.shelf) c.in_ok-drawn.drawn c.in_ok-drawn.ensures.opens

pub returns-clause-allowed : goal.returns-clause-allowed
returns-clause-allowed g c =
    (c.requires.budget, drawn_has_form c.args.design.now (g.H.Shelf.state c.args.shelf.now) (g.H.Shelf.state c.open_design.new.shelf) c.in_ok-drawn.drawn c.in_ok-drawn.ensures.opens)
