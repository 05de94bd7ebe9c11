use Rattle.slack_report.proofs.PlainLines.{no_line}
use Rattle.slack_report.proofs.read.read_line.Goals as goal

pub returns-in-Err-clause-is : goal.returns-in-Err-clause-is
returns-in-Err-clause-is c = no_line c.args.place c.args.line.now c.in-Err.ensures.cases.0
