use Rattle.lint.specs.Periods.{clock_periods}
use Rattle.lint.proofs.EachLists.{behind_more}
use Rattle.lint.proofs.periods.push_clocks.Goals as goal

pub loop-n-preserved : goal.loop-n-preserved
loop-n-preserved c =
    behind_more clock_periods c.args.clocks.now c.loop-n.n c.index-clocks-n.result c.args.warnings.now.items c.loop-n.warnings.items c.push_clock.new.warnings.items c.loop-n-test.true c.index-clocks-n.is
    c.loop-n.invariant c.in_ok-push_clock.ensures.pushed
