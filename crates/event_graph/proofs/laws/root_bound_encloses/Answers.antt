use Rattle.event_graph.proofs.ByEdges.{root_bound_encloses}
use Rattle.event_graph.proofs.laws.root_bound_encloses.Goals as goal

pub returns : goal.returns
returns c = record { law = root_bound_encloses }
