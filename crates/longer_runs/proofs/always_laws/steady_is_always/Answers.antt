use Rattle.longer_runs.proofs.Always.{steady_is_always}
use Rattle.longer_runs.proofs.always_laws.steady_is_always.Goals as goal

pub returns : goal.returns
returns c = record { law = steady_is_always }
