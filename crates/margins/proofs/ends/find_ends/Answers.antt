use Rattle.std.proofs.Common.{arith}
use Rattle.margins.specs.Ends.{AreBothFound}
use Rattle.margins.proofs.Standing.{pairs_next}
use Rattle.margins.proofs.ends.find_ends.Goals as goal

pub loop-k-preserved : goal.loop-k-preserved
loop-k-preserved c = record {
  ends = pairs_next (AreBothFound c.args.drawn.now c.args.budget) c.args.seen.now c.loop-k.ends.items c.push.new.self.items c.loop-k.k c.index-seen-k.result c.in_ok-found.found
      c.loop-k-test.true c.index-seen-k.is c.loop-k.invariant.ends c.in_ok-found.ensures.ends c.in_ok-push.ensures.items;
  turns = omega arith;
}
