use Rattle.right_report.proofs.RowBounds.{greatest_is_right}
use Rattle.right_report.proofs.laws.greatest_is_right.Goals as goal

pub returns : goal.returns
returns c = greatest_is_right
