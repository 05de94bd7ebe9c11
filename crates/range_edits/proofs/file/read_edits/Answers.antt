use Rattle.range_edits.proofs.FileLines.{there_of}
use Rattle.range_edits.proofs.file.read_edits.Goals as goal

pub returns-clause-there : goal.returns-clause-there
returns-clause-there c = there_of c.args.drawn.now c.args.bytes.now c.read_lines.result c.read_lines.ensures
