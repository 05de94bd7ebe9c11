use Rattle.design_reading.specs.FileReading.{gives}
use Rattle.itv_cli.specs.declared.ready.Ready.TheVariants.{Planned}
use Rattle.itv_cli.proofs.Steps.{planned_ready, planned_up}
use Rattle.itv_cli.proofs.opening.open_planned_job.Goals as goal

pub returns-in_err-plan-clause-opens : goal.returns-in_err-plan-clause-opens
returns-in_err-plan-clause-opens g c =
    planned_up c.args.design.now (λ both. gives (Planned both.0 both.1 c.args.job c.args.budget)) (g.H.Shelf.state c.args.shelf.now) (g.H.Shelf.state c.open_planned.new.shelf) c.in_err-plan.field-0.0 c.from_residual.result
    c.from_residual.ensures.1 c.in_err-plan.ensures.opens

pub returns-clause-opens : goal.returns-clause-opens
returns-clause-opens g c =
    planned_ready c.args.design.now (λ both. Planned both.0 both.1 c.args.job c.args.budget) (g.H.Shelf.state c.args.shelf.now) (g.H.Shelf.state c.open_planned.new.shelf) c.in_ok-plan.field-0 c.in_ok-plan.ensures.opens
