use Rattle.right_report.proofs.FirstWrong.{checked_has_no_wrong}
use Rattle.right_report.proofs.laws.checked_has_no_wrong.Goals as goal

pub returns : goal.returns
returns c = checked_has_no_wrong
