use Rattle.lint.specs.Step.{sheet_checked}
use Rattle.lint.proofs.EachLists.{each_more}
use Rattle.lint.proofs.texts.push_sheets.Goals as goal

pub loop-part-preserved : goal.loop-part-preserved
loop-part-preserved c =
    each_more (sheet_checked c.args.check c.args.version) c.args.design.now.sheets c.loop-part.part c.sheet_of.result.now c.args.warnings.now.items c.loop-part.warnings.items c.push_edges.new.warnings.items c.sheet_of.ensures.sheet
    c.loop-part.invariant (rw c.edges-edges.ensures.edges at c.in_ok-push_edges.ensures.pushed)
