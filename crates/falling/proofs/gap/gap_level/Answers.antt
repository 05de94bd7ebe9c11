use Rattle.falling.proofs.Climbing.{level_within}
use Rattle.falling.proofs.gap.gap_level.Goals as goal

pub returns-then-next-level-clause-high : goal.returns-then-next-level-clause-high
returns-then-next-level-clause-high c = level_within c.args.net.now c.args.values.now c.passes.level.value c.requires.count c.passes.invariant.high
