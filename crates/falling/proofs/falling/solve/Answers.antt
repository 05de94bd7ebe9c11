use Rattle.std.proofs.Common.{subst}
use Rattle.falling.specs.Solving.{IsNegationOf}
use Rattle.falling.proofs.Views.{negated_view, plain_view}
use Rattle.falling.proofs.falling.solve.Goals as goal

pub greatest-requires-clause-plain : goal.greatest-requires-clause-plain
greatest-requires-clause-plain g c = plain_view c.args.net.now (subst (IsNegationOf c.args.net.now) c.in-None.is c.requires.negation)

pub greatest_by_negation-requires-clause-negatable : goal.greatest_by_negation-requires-clause-negatable
greatest_by_negation-requires-clause-negatable g c = negated_view c.args.net.now (subst (IsNegationOf c.args.net.now) c.in-Some.is c.requires.negation).1
