use Rattle.edge_clauses.proofs.Proving.{negated_proof_of_nothing}
use Rattle.edge_clauses.proofs.laws.negated_proof_of_nothing.Goals as goal

pub returns : goal.returns
returns c = record { law = negated_proof_of_nothing }
