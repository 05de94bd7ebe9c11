use Rattle.range_edits.proofs.FileLines.{edit_text, edit_untext}
use Rattle.range_edits.proofs.line.read_edit.Goals as goal

pub returns-in-Ok : goal.returns-in-Ok
returns-in-Ok c = edit_text c.args.drawn.now c.args.n c.args.line.now c.in-Ok.text.now c.edit_in.result c.in-Ok.ensures.cases.1 c.in-Ok.ensures.cases.0 c.edit_in.ensures

pub returns-in-Err : goal.returns-in-Err
returns-in-Err c = edit_untext c.args.drawn.now c.args.n c.args.line.now c.in-Err.ensures.cases.0
