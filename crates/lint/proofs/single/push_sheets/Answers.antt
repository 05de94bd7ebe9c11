use Rattle.lint.specs.Rules.{sheet_single}
use Rattle.lint.proofs.EachLists.{each_more}
use Rattle.lint.proofs.single.push_sheets.Goals as goal

pub loop-part-preserved : goal.loop-part-preserved
loop-part-preserved c =
    each_more sheet_single c.args.design.now.sheets c.loop-part.part c.sheet_of.result.now c.args.warnings.now.items c.loop-part.warnings.items c.push_rules.new.warnings.items c.sheet_of.ensures.sheet
    c.loop-part.invariant (rw (c.as_slice.ensures.items, c.rules.ensures.rules) at c.in_ok-push_rules.ensures.pushed)
