use Rattle.falling.proofs.Closing.{settled_closes}
use Rattle.falling.proofs.laws.settled_closes.Goals as goal

pub returns : goal.returns
returns c = record { law = settled_closes }
