use Rattle.slack_report.proofs.Judging.{begun_reports_can_end}
use Rattle.slack_report.proofs.laws.begun_reports_can_end.Goals as goal

pub returns : goal.returns
returns c = begun_reports_can_end
