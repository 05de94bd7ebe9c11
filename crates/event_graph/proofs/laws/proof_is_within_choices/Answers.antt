use Rattle.event_graph.proofs.ProofCounts.{proof_is_within_choices}
use Rattle.event_graph.proofs.laws.proof_is_within_choices.Goals as goal

pub returns : goal.returns
returns c = record { law = proof_is_within_choices }
