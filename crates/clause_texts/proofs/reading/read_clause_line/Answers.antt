use Rattle.clause_texts.proofs.LineLaws.{tells_bad, tells_ok, tells_only}
use Rattle.clause_texts.proofs.reading.read_clause_line.Goals as goal

pub returns-clause-ok : goal.returns-clause-ok
returns-clause-ok c = tells_ok c.args.text.now c.read_bytes.result c.read_bytes.ensures

pub returns-clause-only : goal.returns-clause-only
returns-clause-only c = tells_only c.args.text.now c.read_bytes.result c.read_bytes.ensures

pub returns-clause-bad : goal.returns-clause-bad
returns-clause-bad c = tells_bad c.args.text.now c.read_bytes.result c.read_bytes.ensures
