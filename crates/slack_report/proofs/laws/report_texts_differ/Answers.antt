use Rattle.slack_report.proofs.Judging.{texts_differ}
use Rattle.slack_report.proofs.laws.report_texts_differ.Goals as goal

pub returns : goal.returns
returns c = texts_differ
