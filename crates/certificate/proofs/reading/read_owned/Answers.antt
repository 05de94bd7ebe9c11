use Rattle.certificate.proofs.LineLaws.{no_proof_line}
use Rattle.certificate.proofs.reading.read_owned.Goals as goal

pub returns-in-Err : goal.returns-in-Err
returns-in-Err c = no_proof_line c.args.text.now c.in-Err.ensures.cases.0
