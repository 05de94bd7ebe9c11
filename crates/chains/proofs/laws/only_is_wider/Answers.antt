use Rattle.chains.proofs.Naming.{only_is_wider}
use Rattle.chains.proofs.laws.only_is_wider.Goals as goal

pub returns : goal.returns
returns c = record { law = only_is_wider }
