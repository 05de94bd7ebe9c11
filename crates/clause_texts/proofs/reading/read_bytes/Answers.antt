use Rattle.clause_texts.proofs.LineLaws.{no_clause_line}
use Rattle.clause_texts.proofs.reading.read_bytes.Goals as goal

pub returns-in-Err : goal.returns-in-Err
returns-in-Err c = no_clause_line c.args.text.now c.in-Err.ensures.cases.0
