use Rattle.right_report.proofs.Showing.{shown_is_right}
use Rattle.right_report.proofs.laws.shown_is_right.Goals as goal

pub returns : goal.returns
returns c = shown_is_right
