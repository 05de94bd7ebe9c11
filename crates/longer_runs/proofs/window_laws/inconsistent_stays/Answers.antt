use Rattle.longer_runs.proofs.Windows.{inconsistent_stays}
use Rattle.longer_runs.proofs.window_laws.inconsistent_stays.Goals as goal

pub returns : goal.returns
returns c = record { law = inconsistent_stays }
