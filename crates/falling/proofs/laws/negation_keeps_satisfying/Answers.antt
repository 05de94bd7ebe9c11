use Rattle.falling.proofs.Negating.{negation_keeps_satisfying}
use Rattle.falling.proofs.laws.negation_keeps_satisfying.Goals as goal

pub returns : goal.returns
returns c = record { law = negation_keeps_satisfying }
