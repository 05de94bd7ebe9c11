use Rattle.edge_clauses.proofs.Proving.{claim_can_rise}
use Rattle.edge_clauses.proofs.laws.claim_can_rise.Goals as goal

pub returns : goal.returns
returns c = record { law = claim_can_rise }
