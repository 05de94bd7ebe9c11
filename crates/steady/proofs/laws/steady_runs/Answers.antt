use Rattle.steady.proofs.Bridges.{steady_runs}
use Rattle.steady.proofs.laws.steady_runs.Goals as goal

pub returns : goal.returns
returns c = record { law = steady_runs }
