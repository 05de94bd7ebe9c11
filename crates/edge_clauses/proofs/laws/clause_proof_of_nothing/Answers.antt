use Rattle.edge_clauses.proofs.Proving.{clause_proof_of_nothing}
use Rattle.edge_clauses.proofs.laws.clause_proof_of_nothing.Goals as goal

pub returns : goal.returns
returns c = record { law = clause_proof_of_nothing }
