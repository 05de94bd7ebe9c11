use Rattle.falling.proofs.Bounding.{derivation_bounds}
use Rattle.falling.proofs.laws.derivation_bounds.Goals as goal

pub returns : goal.returns
returns c = record { law = derivation_bounds }
