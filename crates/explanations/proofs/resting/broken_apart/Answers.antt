use Rattle.std.proofs.Common.{refl, rules}
use Rattle.explanations.proofs.resting.broken_apart.Goals as goal

pub returns-then-eq-clause-rests : goal.returns-then-eq-clause-rests
returns-then-eq-clause-rests c = (c.in_ok-both.both, c.in_ok-both.ensures.bounds c.args.row.now refl refl, search rules)

pub returns-else-eq-clause-rests : goal.returns-else-eq-clause-rests
returns-else-eq-clause-rests c = (c.in_ok-both.ensures.bounds c.args.row.now refl refl, search rules)
