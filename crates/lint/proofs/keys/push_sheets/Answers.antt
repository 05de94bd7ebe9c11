use Rattle.lint.specs.Texts.{sheet_key_warnings}
use Rattle.lint.proofs.EachLists.{each_more}
use Rattle.lint.proofs.keys.push_sheets.Goals as goal

pub loop-part-preserved : goal.loop-part-preserved
loop-part-preserved c =
    each_more sheet_key_warnings c.args.design.now.sheets c.loop-part.part c.sheet_of.result.now c.args.warnings.now.items c.loop-part.warnings.items c.push_sheet.new.warnings.items c.sheet_of.ensures.sheet
    c.loop-part.invariant (rw c.near.ensures.near at c.in_ok-push_sheet.ensures.pushed)
