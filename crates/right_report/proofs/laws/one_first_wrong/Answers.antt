use Rattle.right_report.proofs.FirstWrong.{one_first_wrong}
use Rattle.right_report.proofs.laws.one_first_wrong.Goals as goal

pub returns : goal.returns
returns c = one_first_wrong
