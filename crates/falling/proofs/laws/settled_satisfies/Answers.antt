use Rattle.falling.proofs.Settling.{settled_satisfies}
use Rattle.falling.proofs.laws.settled_satisfies.Goals as goal

pub returns : goal.returns
returns c = record { law = settled_satisfies }
