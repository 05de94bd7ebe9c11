use Rattle.event_graph.proofs.ProofCounts.{stopped_proof_is_below_choices}
use Rattle.event_graph.proofs.laws.stopped_proof_is_below_choices.Goals as goal

pub returns : goal.returns
returns c = record { law = stopped_proof_is_below_choices }
