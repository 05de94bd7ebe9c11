use Rattle.lint.specs.Leads.{sheet_crossings}
use Rattle.lint.proofs.EachLists.{each_more}
use Rattle.lint.proofs.crossings.push_sheets.Goals as goal

pub loop-part-preserved : goal.loop-part-preserved
loop-part-preserved c =
    each_more (sheet_crossings c.args.design.now.sheets) c.args.design.now.sheets c.loop-part.part c.sheet_of.result.now c.args.crossings.now.items c.loop-part.crossings.items c.push_rows.new.crossings.items c.sheet_of.ensures.sheet
    c.loop-part.invariant (rw (c.as_slice.ensures.items, c.rows.ensures.rows) at c.in_ok-push_rows.ensures.pushed)
