use Rattle.drawn_networks.specs.Drawn.{Drawn}
use Rattle.design_plan.specs.Plan.{PlanView}
use Rattle.design_reading.specs.Design.{drawn_at, plan_at}
use Rattle.design_reading.proofs.Opens.{opens_then, opens_up}
use Rattle.design_reading.proofs.design.open_design.Goals as goal

pub returns-in_err-plan : goal.returns-in_err-plan
returns-in_err-plan g c = record {
  opens = opens_up (λ (p : PlanView). p) (λ (d : Drawn). d) (plan_at c.args.name.now) (λ plan. drawn_at plan.netlist plan.sheets) (g.H.Shelf.state c.args.shelf.now) (g.H.Shelf.state c.open_plan.new.shelf) c.in_err-plan.field-0.0 c.from_residual.result
      c.from_residual.ensures.1 c.in_err-plan.ensures.opens;
}

pub returns : goal.returns
returns g c = record {
  opens = opens_then (λ (p : PlanView). p) (λ (d : Drawn). d) (plan_at c.args.name.now) (λ plan. drawn_at plan.netlist plan.sheets) (g.H.Shelf.state c.args.shelf.now) (g.H.Shelf.state c.open_plan.new.shelf) (g.H.Shelf.state c.open_plan.new.shelf) c.in_ok-plan.plan
      c.draw_plan-drawn.result c.in_ok-plan.ensures.opens (c.draw_plan-drawn.ensures.draws (g.H.Shelf.state c.open_plan.new.shelf));
}
