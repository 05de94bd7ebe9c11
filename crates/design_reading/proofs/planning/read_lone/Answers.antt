use Rattle.std.proofs.Common.{Ok, ap, refl, subst, sym}
use Rattle.serde_json.specs.View.{view}
use Rattle.sheet.specs.SheetContents.{SheetView}
use Rattle.design_plan.specs.Plan.{PlanView}
use Rattle.design_reading.specs.declared.refusal_place.RefusalPlace.TheVariants.{File}
use Rattle.design_reading.specs.FileReading.{FileReading, gives, ready}
use Rattle.design_reading.specs.Step.{Opens}
use Rattle.design_reading.specs.Step.Lone.{lone_plan, plain_sheet_at}
use Rattle.design_reading.proofs.LoneSheets.{lone_is}
use Rattle.design_reading.proofs.Opens.{opens_then, opens_up}
use Rattle.design_reading.proofs.planning.read_lone.Goals as goal

pub returns-in_err-sheet : goal.returns-in_err-sheet
returns-in_err-sheet c state =
    subst (λ (o : FileReading PlanView). Opens (λ (p : PlanView). p) state state o c.from_residual.result) (sym (lone_is c.args.name.now (view c.args.tree.now)))
    (opens_up (λ (s : SheetView). s) (λ (p : PlanView). p) (plain_sheet_at (File 0) (view c.args.tree.now)) (λ sheet. gives (lone_plan c.args.name.now sheet)) state state c.in_err-sheet.field-0.0 c.from_residual.result
    c.from_residual.ensures.1 (c.in_err-sheet.ensures state))

pub returns : goal.returns
returns c state =
    subst (λ (o : FileReading PlanView). Opens (λ (p : PlanView). p) state state o (Ok c.in_ok-plan.plan)) (sym (lone_is c.args.name.now (view c.args.tree.now)))
    (opens_then (λ (s : SheetView). s) (λ (p : PlanView). p) (plain_sheet_at (File 0) (view c.args.tree.now)) (λ sheet. gives (lone_plan c.args.name.now sheet)) state state state c.in_ok-sheet.sheet (Ok c.in_ok-plan.plan) (c.in_ok-sheet.ensures state)
    (ap (λ (p : PlanView). ready p) c.in_ok-plan.ensures, refl))
