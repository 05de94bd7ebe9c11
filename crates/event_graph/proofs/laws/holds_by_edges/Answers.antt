use Rattle.event_graph.proofs.ByEdges.{holds_by_edges}
use Rattle.event_graph.proofs.laws.holds_by_edges.Goals as goal

pub returns : goal.returns
returns c = record { law = holds_by_edges }
