use Rattle.falling.proofs.Negating.{negation_reverses_greatest}
use Rattle.falling.proofs.laws.negation_reverses_greatest.Goals as goal

pub returns : goal.returns
returns c = record { law = negation_reverses_greatest }
