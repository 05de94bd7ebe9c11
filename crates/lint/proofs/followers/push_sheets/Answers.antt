use Rattle.std.proofs.Common.{length, ap, arith}
use Rattle.lint.specs.Step.{sheet_clocked}
use Rattle.lint.proofs.EachLists.{each_more}
use Rattle.lint.proofs.followers.push_sheets.Goals as goal

pub loop-part-preserved : goal.loop-part-preserved
loop-part-preserved c =
    each_more (sheet_clocked c.args.periods.now c.args.clocks.now c.args.crossings.now) c.args.design.now.sheets c.loop-part.part c.sheet_of.result.now c.args.warnings.now.items c.loop-part.warnings.items c.push_marks.new.warnings.items c.sheet_of.ensures.sheet
    c.loop-part.invariant (rw c.marks.ensures.marks at c.in_ok-push_marks.ensures.pushed)

pub push_marks-requires : goal.push_marks-requires
push_marks-requires c = record { few = omega (arith, ap length c.marks.ensures.marks, c.marks.ensures.whole.marks) }
