use Rattle.std.proofs.Common.{◌≡◌, subst, IfOk}
use Rattle.design_plan.specs.Plan.{PlanView}
use Rattle.design_reading.proofs.Drawing.{lone_same, sheet_put}
use Rattle.design_reading.proofs.PartSheets.{lone_drawn}
use Rattle.design_reading.proofs.planning.lone_plan.Goals as goal

pub of-requires : goal.of-requires
of-requires c = record {
  sheets = lone_drawn c.args.name.now c.in-Ok-lone.netlist c.push_sheet.new.sheets.entries c.args.sheet c.in-Ok-lone.ensures.lone
      (sheet_put c.args.name.now c.in-Ok.key c.args.sheet c.new-sheets.result.entries c.push_sheet.new.sheets.entries c.in-Ok.ensures c.new-sheets.ensures.empty c.in_ok-push_sheet.ensures.entries);
}

pub returns-in-Ok-lone : goal.returns-in-Ok-lone
returns-in-Ok-lone c =
    subst (λ (p : PlanView). IfOk c.of.result (λ (plan : PlanView). plan ≡ p))
    (lone_same c.args.name.now c.args.sheet c.in-Ok-lone.netlist c.push_sheet.new.sheets.entries c.in-Ok-lone.ensures.lone
    (sheet_put c.args.name.now c.in-Ok.key c.args.sheet c.new-sheets.result.entries c.push_sheet.new.sheets.entries c.in-Ok.ensures c.new-sheets.ensures.empty c.in_ok-push_sheet.ensures.entries)) c.of.ensures.plan
