use Rattle.claim_laws.proofs.Words.{plain_word}
use Rattle.claim_laws.proofs.laws.plain_word.Goals as goal

pub returns : goal.returns
returns c = record { law = plain_word }
