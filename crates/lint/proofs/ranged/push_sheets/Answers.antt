use Rattle.lint.specs.Units.{sheet_ranged}
use Rattle.lint.proofs.EachLists.{each_more}
use Rattle.lint.proofs.ranged.push_sheets.Goals as goal

pub loop-part-preserved : goal.loop-part-preserved
loop-part-preserved c =
    each_more sheet_ranged c.args.design.now.sheets c.loop-part.part c.sheet_of.result.now c.args.ranges.now.items c.loop-part.ranges.items c.push_sheet.new.ranges.items c.sheet_of.ensures.sheet
    c.loop-part.invariant c.in_ok-push_sheet.ensures.pushed
