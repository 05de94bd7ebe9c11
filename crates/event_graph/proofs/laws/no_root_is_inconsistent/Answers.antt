use Rattle.event_graph.proofs.ByEdges.{no_root_is_inconsistent}
use Rattle.event_graph.proofs.laws.no_root_is_inconsistent.Goals as goal

pub returns : goal.returns
returns c = record { law = no_root_is_inconsistent }
