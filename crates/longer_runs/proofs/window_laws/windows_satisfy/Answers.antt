use Rattle.longer_runs.proofs.Windows.{windows_satisfy}
use Rattle.longer_runs.proofs.window_laws.windows_satisfy.Goals as goal

pub returns : goal.returns
returns c = record { law = windows_satisfy }
