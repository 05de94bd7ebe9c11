use Rattle.std.proofs.Common.{arith}
use Rattle.branch.proofs.distances.is_wanted.Goals as goal

pub is_broken-requires-clause-between : goal.is_broken-requires-clause-between
is_broken-requires-clause-between c = (rw c.in-Broken.is at c.requires).1 0 c.args.rule.now (omega arith)
