use Rattle.edge_clauses.proofs.Proving.{negated_proof_bounds}
use Rattle.edge_clauses.proofs.laws.negated_proof_bounds.Goals as goal

pub returns : goal.returns
returns c = record { law = negated_proof_bounds }
