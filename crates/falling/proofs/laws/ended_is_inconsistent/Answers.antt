use Rattle.falling.proofs.Bounding.{ended_is_inconsistent}
use Rattle.falling.proofs.laws.ended_is_inconsistent.Goals as goal

pub returns : goal.returns
returns c = record { law = ended_is_inconsistent }
