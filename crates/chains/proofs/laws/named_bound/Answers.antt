use Rattle.chains.proofs.Naming.{named_bound}
use Rattle.chains.proofs.laws.named_bound.Goals as goal

pub returns : goal.returns
returns c = record { law = named_bound }
