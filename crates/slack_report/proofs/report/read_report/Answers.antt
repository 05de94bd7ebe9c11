use Rattle.slack_report.proofs.Judging.{tells_line, tells_ok, tells_only, tells_wrong}
use Rattle.slack_report.proofs.report.read_report.Goals as goal

pub returns-clause-ok : goal.returns-clause-ok
returns-clause-ok c = tells_ok c.args.bytes.now c.read_whole.result c.read_whole.ensures

pub returns-clause-only : goal.returns-clause-only
returns-clause-only c = tells_only c.args.bytes.now c.read_whole.result c.read_whole.ensures

pub returns-clause-named : goal.returns-clause-named
returns-clause-named c = tells_line c.args.bytes.now c.read_whole.result c.read_whole.ensures

pub returns-clause-wrong : goal.returns-clause-wrong
returns-clause-wrong c = tells_wrong c.args.bytes.now c.read_whole.result c.read_whole.ensures
