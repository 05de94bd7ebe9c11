use Rattle.right_report.proofs.Ordering.{right_is_report}
use Rattle.right_report.proofs.laws.right_is_report.Goals as goal

pub returns : goal.returns
returns c = right_is_report
