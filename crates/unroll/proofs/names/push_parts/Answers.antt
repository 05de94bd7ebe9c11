use Rattle.std.proofs.Common.{take}
use Rattle.unroll.proofs.NameLists.{labels_kept}
use Rattle.itv_base.proofs.Lists.{take_get}
use Rattle.unroll.proofs.PartLists.{take_length}
use Rattle.unroll.proofs.names.push_parts.Goals as goal

pub loop-part-preserved : goal.loop-part-preserved
loop-part-preserved c =
    let sheets = c.args.design.now.sheets in
    let sheet = c.sheet_of.result.now in
    rw (take_get sheets c.loop-part.part sheet c.sheet_of.ensures.sheet)
    (labels_kept c.args.cycle c.loop-part.part (take c.loop-part.part sheets) sheet c.args.labels.now.items c.loop-part.labels.items c.push_marks.new.labels.items c.as_slice.result.now
    (take_length sheets c.loop-part.part sheet c.sheet_of.ensures.sheet) c.loop-part.invariant (rw c.marks.ensures.marks at c.as_slice.ensures.items) c.in_ok-push_marks.ensures)
