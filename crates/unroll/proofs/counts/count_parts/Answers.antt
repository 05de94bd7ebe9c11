use Rattle.std.proofs.Common.{arith, take}
use Rattle.unroll.proofs.CountLists.{part_counted}
use Rattle.itv_base.proofs.Lists.{take_get}
use Rattle.unroll.proofs.counts.count_parts.Goals as goal

pub loop-part-preserved : goal.loop-part-preserved
loop-part-preserved c =
    let sheets = c.args.design.now.sheets in
    let part = c.loop-part.part in
    let sheet = c.sheet_of.result.now in
    let most = c.count_sheet.ensures.within in
    let before = c.loop-part.invariant.within in
    record {
      counts = rw (take_get sheets part sheet c.sheet_of.ensures.sheet, c.plus-counts.ensures)
          (part_counted c.args.design.now.cycles (take part sheets) sheet c.loop-part.counts c.count_sheet.result c.loop-part.invariant.counts (rw c.cycles-cycles.ensures.cycles at c.count_sheet.ensures.counts));
      within = rw c.plus-counts.ensures (record {
        marks = omega (arith, most.marks, before.marks);
        rules = omega (arith, most.rules, before.rules);
        splittable = omega (arith, most.splittable, before.splittable);
        rows = omega (arith, most.rows, before.rows);
      });
    }
