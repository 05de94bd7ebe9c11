use Rattle.moves.proofs.Thresholds.{free_is_for_all}
use Rattle.moves.proofs.laws.free_is_for_all.Goals as goal

pub returns : goal.returns
returns c = record { law = free_is_for_all }
