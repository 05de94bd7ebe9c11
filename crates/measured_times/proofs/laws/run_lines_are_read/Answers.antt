use Rattle.measured_times.proofs.RunTexts.{run_lines_are_read}
use Rattle.measured_times.proofs.laws.run_lines_are_read.Goals as goal

pub returns : goal.returns
returns c = record { law = run_lines_are_read }
