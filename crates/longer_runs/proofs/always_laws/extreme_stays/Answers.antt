use Rattle.longer_runs.proofs.Always.{extreme_stays}
use Rattle.longer_runs.proofs.always_laws.extreme_stays.Goals as goal

pub returns : goal.returns
returns c = record { law = extreme_stays }
