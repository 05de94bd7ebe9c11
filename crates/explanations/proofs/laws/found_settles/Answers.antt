use Rattle.explanations.proofs.Settling.{found_settles}
use Rattle.explanations.proofs.laws.found_settles.Goals as goal

pub returns : goal.returns
returns c = record { law = found_settles }
