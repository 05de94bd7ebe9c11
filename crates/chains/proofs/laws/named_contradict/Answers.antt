use Rattle.chains.proofs.Naming.{named_contradict}
use Rattle.chains.proofs.laws.named_contradict.Goals as goal

pub returns : goal.returns
returns c = record { law = named_contradict }
