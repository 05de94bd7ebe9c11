use Rattle.longer_runs.proofs.Periods.{steady_satisfies}
use Rattle.longer_runs.proofs.period_laws.steady_satisfies.Goals as goal

pub returns : goal.returns
returns c = record { law = steady_satisfies }
