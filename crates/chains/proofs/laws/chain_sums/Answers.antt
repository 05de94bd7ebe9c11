use Rattle.chains.proofs.Raised.{chain_sums}
use Rattle.chains.proofs.laws.chain_sums.Goals as goal

pub returns : goal.returns
returns c = record { law = chain_sums }
