use Rattle.claim_laws.proofs.Lone.{lone_is_read}
use Rattle.claim_laws.proofs.laws.lone_is_read.Goals as goal

pub returns : goal.returns
returns c = record { law = lone_is_read }
