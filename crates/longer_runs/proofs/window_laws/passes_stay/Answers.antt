use Rattle.longer_runs.proofs.Rows.{passes_stay}
use Rattle.longer_runs.proofs.window_laws.passes_stay.Goals as goal

pub returns : goal.returns
returns c = record { law = passes_stay }
