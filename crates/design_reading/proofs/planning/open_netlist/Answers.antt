use Rattle.std.proofs.Common.{Err, Ok, ap, refl}
use Rattle.serde_json.specs.View.{view}
use Rattle.design_plan.specs.Plan.{PlanView}
use Rattle.design_reading.specs.FileReading.{ready}
use Rattle.design_reading.proofs.Drawing.{netlist_up, netlist_on}
use Rattle.design_reading.proofs.PartSheets.{parts_drawn}
use Rattle.design_reading.proofs.planning.open_netlist.Goals as goal

pub returns-in-Err-open_sheets : goal.returns-in-Err-open_sheets
returns-in-Err-open_sheets g c =
    netlist_up (g.H.Shelf.state c.args.shelf.now) (g.H.Shelf.state c.open_sheets.new.shelf) (view c.args.tree.now) c.in-Ok.netlist c.in-Ok.ensures.answer (Err c.in-Err-open_sheets.stop) c.in-Err-open_sheets.stop refl c.in-Err-open_sheets.ensures

pub of-requires : goal.of-requires
of-requires g c = record { sheets = parts_drawn (g.H.Shelf.state c.args.shelf.now) c.in-Ok.netlist c.in-Ok-open_sheets.sheets.entries c.in-Ok-open_sheets.ensures.0 }

pub returns-in_ok-plan-in-Ok-open_sheets : goal.returns-in_ok-plan-in-Ok-open_sheets
returns-in_ok-plan-in-Ok-open_sheets g c =
    netlist_on (g.H.Shelf.state c.args.shelf.now) (g.H.Shelf.state c.open_sheets.new.shelf) (view c.args.tree.now) c.in-Ok.netlist c.in-Ok.ensures.answer (Ok c.in_ok-plan-in-Ok-open_sheets.plan) c.in-Ok-open_sheets.sheets c.in-Ok-open_sheets.ensures
    (ap (λ (p : PlanView). ready p) c.in_ok-plan-in-Ok-open_sheets.ensures.plan, refl)
