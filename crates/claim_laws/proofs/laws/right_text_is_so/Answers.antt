use Rattle.claim_laws.proofs.SaidLines.{right_text_is_so}
use Rattle.claim_laws.proofs.laws.right_text_is_so.Goals as goal

pub returns : goal.returns
returns c = record { law = right_text_is_so }
