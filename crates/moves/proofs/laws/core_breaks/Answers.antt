use Rattle.moves.proofs.Cores.{core_breaks}
use Rattle.moves.proofs.laws.core_breaks.Goals as goal

pub returns : goal.returns
returns c = record { law = core_breaks }
