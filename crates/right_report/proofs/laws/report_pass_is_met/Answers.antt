use Rattle.right_report.proofs.RowVerdicts.{pass_is_met}
use Rattle.right_report.proofs.laws.report_pass_is_met.Goals as goal

pub returns : goal.returns
returns c = pass_is_met
