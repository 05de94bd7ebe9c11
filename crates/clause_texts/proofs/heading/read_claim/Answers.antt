use Rattle.clause_texts.proofs.HeadingLaws.{claim_read, no_claim}
use Rattle.clause_texts.proofs.heading.read_claim.Goals as goal

pub returns-in-Ok : goal.returns-in-Ok
returns-in-Ok c = record { exact = claim_read c.args.text.now c.in-Ok.text.now c.claim_in.result c.in-Ok.ensures.cases.0 c.claim_in.ensures }

pub returns-in-Err : goal.returns-in-Err
returns-in-Err c = record { exact = no_claim c.args.text.now c.in-Err.ensures.cases.0 }
