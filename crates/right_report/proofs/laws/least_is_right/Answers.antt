use Rattle.right_report.proofs.RowBounds.{least_is_right}
use Rattle.right_report.proofs.laws.least_is_right.Goals as goal

pub returns : goal.returns
returns c = least_is_right
