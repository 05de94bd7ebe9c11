use Rattle.right_report.proofs.Ending.{pass_end_is_so}
use Rattle.right_report.proofs.laws.pass_end_is_so.Goals as goal

pub returns : goal.returns
returns c = pass_end_is_so
