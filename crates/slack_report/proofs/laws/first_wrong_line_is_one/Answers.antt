use Rattle.slack_report.proofs.Judging.{first_same}
use Rattle.slack_report.proofs.laws.first_wrong_line_is_one.Goals as goal

pub returns : goal.returns
returns c = first_same
