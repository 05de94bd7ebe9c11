use Rattle.right_report.proofs.Showing.{bare_is_right}
use Rattle.right_report.proofs.laws.bare_is_right.Goals as goal

pub returns : goal.returns
returns c = bare_is_right
