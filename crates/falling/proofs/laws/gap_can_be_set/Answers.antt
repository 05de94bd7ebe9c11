use Rattle.falling.proofs.Near.{gap_can_be_set}
use Rattle.falling.proofs.laws.gap_can_be_set.Goals as goal

pub returns : goal.returns
returns c = record { law = gap_can_be_set }
