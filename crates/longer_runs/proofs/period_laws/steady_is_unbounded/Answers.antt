use Rattle.longer_runs.proofs.Periods.{steady_is_unbounded}
use Rattle.longer_runs.proofs.period_laws.steady_is_unbounded.Goals as goal

pub returns : goal.returns
returns c = record { law = steady_is_unbounded }
