use Rattle.lint.specs.Units.{net_ranged}
use Rattle.lint.proofs.EachLists.{each_more}
use Rattle.lint.proofs.ranged.push_nets.Goals as goal

pub loop-n-preserved : goal.loop-n-preserved
loop-n-preserved c =
    each_more net_ranged c.args.nets.now c.loop-n.n c.get.result.now c.args.ranges.now.items c.loop-n.ranges.items c.push_range.new.ranges.items c.get.ensures.item c.loop-n.invariant
    (rw c.delay.ensures.delay at c.in_ok-push_range.ensures.pushed)
