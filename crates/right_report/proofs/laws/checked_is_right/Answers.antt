use Rattle.right_report.proofs.Checking.{checked_is_right}
use Rattle.right_report.proofs.laws.checked_is_right.Goals as goal

pub returns : goal.returns
returns c = checked_is_right
