use Rattle.event_graph.proofs.ByEdges.{single_cause_is_linear}
use Rattle.event_graph.proofs.laws.single_cause_is_linear.Goals as goal

pub returns : goal.returns
returns c = record { law = single_cause_is_linear }
