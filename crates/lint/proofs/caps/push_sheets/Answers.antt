use Rattle.lint.specs.Step.{sheet_caps}
use Rattle.lint.proofs.EachLists.{each_more}
use Rattle.lint.proofs.caps.push_sheets.Goals as goal

pub loop-part-preserved : goal.loop-part-preserved
loop-part-preserved c =
    each_more sheet_caps c.args.design.now.sheets c.loop-part.part c.sheet_of-sheet.result.now c.args.caps.now.items c.loop-part.caps.items c.push_rules.new.caps.items c.sheet_of-sheet.ensures.sheet
    c.loop-part.invariant (rw (c.edges.ensures.edges, c.as_slice.ensures.items, c.rules.ensures.rules) at c.in_ok-push_rules.ensures.pushed)
