use Rattle.longer_runs.proofs.Periods.{steady_breaks}
use Rattle.longer_runs.proofs.period_laws.steady_breaks.Goals as goal

pub returns : goal.returns
returns c = record { law = steady_breaks }
