use Rattle.std.proofs.Common.{arith}
use Rattle.lint.specs.Step.{place_clocked}
use Rattle.lint.proofs.EachLists.{each_there}
use Rattle.lint.proofs.followers.push_marks.Goals as goal

pub loop-k-preserved : goal.loop-k-preserved
loop-k-preserved c =
    each_there (place_clocked c.args.periods.now c.args.clocks.now c.args.crossings.now c.args.part) c.args.marks.now c.loop-k.k c.args.warnings.now.items c.loop-k.warnings.items c.push_mark.new.warnings.items
    (omega (arith, c.loop-k-test.true, c.len-k-end.ensures.count)) c.loop-k.invariant (λ mark. rw c.first_at.ensures at c.in_ok-push_mark.ensures.pushed)
