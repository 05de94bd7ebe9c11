use Rattle.chains.proofs.Naming.{only_is_of}
use Rattle.chains.proofs.laws.only_is_of.Goals as goal

pub returns : goal.returns
returns c = record { law = only_is_of }
