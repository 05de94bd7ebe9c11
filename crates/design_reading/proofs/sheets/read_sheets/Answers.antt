use Rattle.std.specs.Prelude.{⊤}
use Rattle.serde_json.specs.View.{view}
use Rattle.design_reading.proofs.FileSteps.{diagram_refused, grades_up, parts_on}
use Rattle.design_reading.proofs.sheets.read_sheets.Goals as goal

pub returns-in-Err : goal.returns-in-Err
returns-in-Err c state =
    rw c.diagram_stop.ensures
    (diagram_refused state c.args.netlist.now c.args.number c.args.sheets.now.entries c.args.name.now (view c.args.tree.now) (λ (_ : ⊤). c.args.sheets.now.entries) c.in-Err.fault c.in-Err.ensures.answer)

pub returns-in_err-grades : goal.returns-in_err-grades
returns-in_err-grades c state =
    grades_up state c.args.netlist.now c.args.number c.args.sheets.now.entries c.args.name.now (view c.args.tree.now) (λ (_ : ⊤). c.args.sheets.now.entries) c.in-Ok.diagram c.in-Ok.ensures.answer c.version.result c.version.ensures.version c.in_err-grades.field-0.0 c.from_residual.result c.from_residual.ensures.1
    (c.in_err-grades.ensures state)

pub returns : goal.returns
returns c state =
    parts_on state c.args.netlist.now c.args.number c.args.sheets.now.entries c.args.name.now (view c.args.tree.now) (λ (_ : ⊤). c.push_parts.new.sheets.entries) c.in-Ok.diagram c.in-Ok.ensures.answer c.version.result c.version.ensures.version c.in_ok-grades.grades c.push_parts.result
    (c.in_ok-grades.ensures state) (rw (c.as_slice-parts.ensures.items, c.parts.ensures.parts) at (c.push_parts.ensures state))
