use Rattle.certificate.proofs.LineLaws.{tells_bad, tells_ok, tells_only}
use Rattle.certificate.proofs.reading.read_line.Goals as goal

pub returns-clause-ok : goal.returns-clause-ok
returns-clause-ok c = tells_ok c.args.text.now c.read_owned.result c.read_owned.ensures

pub returns-clause-only : goal.returns-clause-only
returns-clause-only c = tells_only c.args.text.now c.read_owned.result c.read_owned.ensures

pub returns-clause-bad : goal.returns-clause-bad
returns-clause-bad c = tells_bad c.args.text.now c.read_owned.result c.read_owned.ensures
