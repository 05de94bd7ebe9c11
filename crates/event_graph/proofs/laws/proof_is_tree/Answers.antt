use Rattle.event_graph.proofs.Spelling.{proof_is_tree}
use Rattle.event_graph.proofs.laws.proof_is_tree.Goals as goal

pub returns : goal.returns
returns c = record { law = proof_is_tree }
