use Rattle.falling.proofs.Within.{times_near_source}
use Rattle.falling.proofs.laws.times_near_source.Goals as goal

pub returns : goal.returns
returns c = record { law = times_near_source }
