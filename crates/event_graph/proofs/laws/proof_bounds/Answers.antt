use Rattle.event_graph.proofs.SoundProofs.{proof_bounds}
use Rattle.event_graph.proofs.laws.proof_bounds.Goals as goal

pub returns : goal.returns
returns c = record { law = proof_bounds }
