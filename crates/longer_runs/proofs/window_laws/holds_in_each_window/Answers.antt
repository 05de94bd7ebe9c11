use Rattle.longer_runs.proofs.Rows.{holds_in_each_window}
use Rattle.longer_runs.proofs.window_laws.holds_in_each_window.Goals as goal

pub returns : goal.returns
returns c = record { law = holds_in_each_window }
