use Rattle.longer_runs.proofs.Periods.{steady_separates}
use Rattle.longer_runs.proofs.period_laws.steady_separates.Goals as goal

pub returns : goal.returns
returns c = record { law = steady_separates }
