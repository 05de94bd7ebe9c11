use Rattle.job_lint.proofs.Searching.{apart_consistent, enough_apart}
use Rattle.job_lint.proofs.apart.found_apart.Goals as goal

pub unreachable-requires : goal.unreachable-requires
unreachable-requires c = apart_consistent c.args.drawn.now c.args.net c.requires.net c.requires.some (rw c.in-Inconsistent.is at c.requires.finding)

pub returns-in-Open-clause-enough : goal.returns-in-Open-clause-enough
returns-in-Open-clause-enough c = λ enough. c.requires.settles (enough_apart c.args.drawn.now c.args.net c.args.extremes.budget c.requires.limits c.requires.net enough) c.in-Open.is
