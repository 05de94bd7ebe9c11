use Rattle.drawn_numbers.proofs.RangesSet.{ranges_more}
use Rattle.drawn_numbers.proofs.setting.set_ranges.Goals as goal

pub loop-k-preserved : goal.loop-k-preserved
loop-k-preserved c =
    ranges_more c.args.net.now c.loop-k.net c.set_range.new.self c.args.causes.now c.loop-k.k _ _ c.args.range c.loop-k-test.true c.loop-k.invariant c.set_range.ensures.set
