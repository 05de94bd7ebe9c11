use Rattle.redraw_laws.proofs.Chain.{chain_satisfied}
use Rattle.redraw_laws.proofs.read_laws.times_of_chain.Goals as goal

pub returns : goal.returns
returns c = record { law = chain_satisfied }
