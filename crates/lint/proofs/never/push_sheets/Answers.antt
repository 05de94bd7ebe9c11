use Rattle.lint.specs.Never.{sheet_never}
use Rattle.lint.proofs.EachLists.{each_more}
use Rattle.lint.proofs.never.push_sheets.Goals as goal

pub loop-part-preserved : goal.loop-part-preserved
loop-part-preserved c =
    each_more (sheet_never c.args.last) c.args.design.now.sheets c.loop-part.part c.sheet_of.result.now c.args.places.now.items c.loop-part.places.items c.push_sheet.new.places.items c.sheet_of.ensures.sheet
    c.loop-part.invariant c.in_ok-push_sheet.ensures.pushed
