use Rattle.edge_clauses.proofs.Proving.{proof_and_times_close}
use Rattle.edge_clauses.proofs.laws.proof_and_times_close.Goals as goal

pub returns : goal.returns
returns c = record { law = proof_and_times_close }
