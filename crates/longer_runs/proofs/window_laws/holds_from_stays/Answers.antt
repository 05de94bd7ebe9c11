use Rattle.longer_runs.proofs.Rows.{holds_from_stays}
use Rattle.longer_runs.proofs.window_laws.holds_from_stays.Goals as goal

pub returns : goal.returns
returns c = record { law = holds_from_stays }
