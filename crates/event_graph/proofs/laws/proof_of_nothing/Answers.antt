use Rattle.event_graph.proofs.SoundProofs.{proof_of_nothing}
use Rattle.event_graph.proofs.laws.proof_of_nothing.Goals as goal

pub returns : goal.returns
returns c = record { law = proof_of_nothing }
