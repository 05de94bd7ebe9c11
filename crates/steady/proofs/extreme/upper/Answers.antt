use Rattle.steady.proofs.Pairs.{rising_unbounded}
use Rattle.steady.proofs.extreme.upper.Goals as goal

pub returns-in-Unbounded-clause-found : goal.returns-in-Unbounded-clause-found
returns-in-Unbounded-clause-found c = rising_unbounded c.args.net.now c.args.from c.args.to c.in-Unbounded.shown.items (rw c.in-Unbounded.is at c.requires.found)
