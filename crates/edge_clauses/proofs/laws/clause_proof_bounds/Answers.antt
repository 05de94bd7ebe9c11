use Rattle.edge_clauses.proofs.Proving.{clause_proof_bounds}
use Rattle.edge_clauses.proofs.laws.clause_proof_bounds.Goals as goal

pub returns : goal.returns
returns c = record { law = clause_proof_bounds }
