use Rattle.falling.proofs.Within.{separation_within_cap}
use Rattle.falling.proofs.laws.separation_within_cap.Goals as goal

pub returns : goal.returns
returns c = record { law = separation_within_cap }
