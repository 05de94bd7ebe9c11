use Rattle.design_plan.specs.Plan.{PlanView}
use Rattle.design_reading.specs.declared.planning.ReadPlan as code
use Rattle.design_reading.specs.Design.{plan_at}
use Rattle.design_reading.proofs.Asking.{stop_as}
use Rattle.design_reading.proofs.planning.open_plan.Goals as goal

pub returns-in-Err : goal.returns-in-Err
returns-in-Err g c = record {
  opens = stop_as (λ (read : code.ReadPlan). read.plan) (λ (p : PlanView). p) (plan_at c.args.name.now) (g.H.Shelf.state c.args.shelf.now) (g.H.Shelf.state c.open_read_plan.new.shelf) c.in-Err.stop c.in-Err.ensures.opens;
}
