use Rattle.std.proofs.Common.{Ok, true, false, ◌∙◌, refl, sym, subst}
use Rattle.serde_json.specs.View.{view}
use Rattle.itv_base.specs.Outside.{ShelfState}
use Rattle.design_plan.specs.Plan.{PlanView}
use Rattle.design_reading.specs.declared.planning.ReadPlan as code
use Rattle.design_reading.specs.declared.refusal_place.RefusalPlace.TheVariants.{File}
use Rattle.design_reading.specs.Design.{lone_at, netlist_at, tree_planned, tree_in}
use Rattle.design_reading.specs.FileReading.{FileReading, RunsTo, ready}
use Rattle.design_reading.specs.Step.{Opens}
use Rattle.design_reading.proofs.Asking.{gave_lone, gave_netlist, planned_lone, planned_netlist, stop_up}
use Rattle.design_reading.proofs.Opens.{opens_then, opens_up}
use Rattle.design_reading.proofs.planning.open_read_plan.Goals as goal

-- the plan of what was read
abbrev plan_in : code.ReadPlan → PlanView
plan_in read = read.plan

pub returns-in_err-tree-clause-opens : goal.returns-in_err-tree-clause-opens
returns-in_err-tree-clause-opens g c =
    opens_up view plan_in (tree_in (File 0) c.args.name.now) (λ tree. tree_planned c.args.name.now tree) (g.H.Shelf.state c.args.shelf.now) (g.H.Shelf.state c.open_tree.new.shelf) c.in_err-tree.field-0.0 c.from_residual.result
    c.from_residual.ensures.1 c.in_err-tree.ensures

pub returns-in_err-plan-clause-opens : goal.returns-in_err-plan-clause-opens
returns-in_err-plan-clause-opens g c =
    let mid : ShelfState = g.H.Shelf.state c.open_tree.new.shelf in
    opens_then view plan_in (tree_in (File 0) c.args.name.now) (λ tree. tree_planned c.args.name.now tree) (g.H.Shelf.state c.args.shelf.now) mid mid c.in_ok-tree.tree c.from_residual-in_err-plan.result c.in_ok-tree.ensures
    (subst (λ (o : FileReading PlanView). Opens plan_in mid mid o c.from_residual-in_err-plan.result) (sym (planned_lone c.args.name.now (view c.in_ok-tree.tree) (sym c.is_lone.ensures ∙ c.if-is_lone.true)))
    (stop_up (λ (p : PlanView). p) plan_in (lone_at c.args.name.now (view c.in_ok-tree.tree)) mid mid c.in_err-plan.field-0.0 c.from_residual-in_err-plan.result c.from_residual-in_err-plan.ensures.1 (c.in_err-plan.ensures mid)))

pub returns-then-is_lone-clause-opens : goal.returns-then-is_lone-clause-opens
returns-then-is_lone-clause-opens g c =
    let mid : ShelfState = g.H.Shelf.state c.open_tree.new.shelf in
    opens_then view (λ (p : PlanView). p) (tree_in (File 0) c.args.name.now) (λ tree. tree_planned c.args.name.now tree) (g.H.Shelf.state c.args.shelf.now) mid mid c.in_ok-tree.tree (Ok c.in_ok-plan.plan) c.in_ok-tree.ensures
    (subst (λ (o : FileReading PlanView). Opens (λ (p : PlanView). p) mid mid o (Ok c.in_ok-plan.plan)) (sym (planned_lone c.args.name.now (view c.in_ok-tree.tree) (sym c.is_lone.ensures ∙ c.if-is_lone.true))) (c.in_ok-plan.ensures mid))

pub returns-then-is_lone-clause-asked : goal.returns-then-is_lone-clause-asked
returns-then-is_lone-clause-asked g c =
    gave_lone (g.H.Shelf.state c.args.shelf.now) c.in_ok-plan.plan c.args.name.now (view c.in_ok-tree.tree) c.in_ok-tree.ensures.0
    (planned_lone c.args.name.now (view c.in_ok-tree.tree) (sym c.is_lone.ensures ∙ c.if-is_lone.true)) (c.in_ok-plan.ensures (g.H.Shelf.state c.args.shelf.now)).0

pub returns-in_err-plan-2-clause-opens : goal.returns-in_err-plan-2-clause-opens
returns-in_err-plan-2-clause-opens g c =
    let mid : ShelfState = g.H.Shelf.state c.open_tree.new.shelf in
    let new : ShelfState = g.H.Shelf.state c.open_netlist.new.shelf in
    opens_then view plan_in (tree_in (File 0) c.args.name.now) (λ tree. tree_planned c.args.name.now tree) (g.H.Shelf.state c.args.shelf.now) mid new c.in_ok-tree.tree c.from_residual-in_err-plan-2.result c.in_ok-tree.ensures
    (subst (λ (o : FileReading PlanView). Opens plan_in mid new o c.from_residual-in_err-plan-2.result) (sym (planned_netlist c.args.name.now (view c.in_ok-tree.tree) (sym c.is_lone.ensures ∙ c.if-is_lone.false)))
    (stop_up (λ (p : PlanView). p) plan_in (netlist_at (view c.in_ok-tree.tree)) mid new c.in_err-plan-2.field-0.0 c.from_residual-in_err-plan-2.result c.from_residual-in_err-plan-2.ensures.1 c.in_err-plan-2.ensures))

pub returns-clause-opens : goal.returns-clause-opens
returns-clause-opens g c =
    let mid : ShelfState = g.H.Shelf.state c.open_tree.new.shelf in
    let new : ShelfState = g.H.Shelf.state c.open_netlist.new.shelf in
    opens_then view (λ (p : PlanView). p) (tree_in (File 0) c.args.name.now) (λ tree. tree_planned c.args.name.now tree) (g.H.Shelf.state c.args.shelf.now) mid new c.in_ok-tree.tree (Ok c.in_ok-plan-2.plan) c.in_ok-tree.ensures
    (subst (λ (o : FileReading PlanView). Opens (λ (p : PlanView). p) mid new o (Ok c.in_ok-plan-2.plan)) (sym (planned_netlist c.args.name.now (view c.in_ok-tree.tree) (sym c.is_lone.ensures ∙ c.if-is_lone.false))) c.in_ok-plan-2.ensures)

pub returns-clause-asked : goal.returns-clause-asked
returns-clause-asked g c =
    gave_netlist (g.H.Shelf.state c.args.shelf.now) c.in_ok-plan-2.plan c.args.name.now (view c.in_ok-tree.tree) c.in_ok-tree.ensures.0
    (planned_netlist c.args.name.now (view c.in_ok-tree.tree) (sym c.is_lone.ensures ∙ c.if-is_lone.false))
    (subst (λ (s : ShelfState). RunsTo s (netlist_at (view c.in_ok-tree.tree)) (ready c.in_ok-plan-2.plan)) c.in_ok-tree.ensures.1 c.in_ok-plan-2.ensures.0)
