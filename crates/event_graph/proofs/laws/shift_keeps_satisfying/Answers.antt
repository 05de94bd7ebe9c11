use Rattle.event_graph.proofs.Shifting.{shift_keeps_satisfying}
use Rattle.event_graph.proofs.laws.shift_keeps_satisfying.Goals as goal

pub returns : goal.returns
returns c = record { law = shift_keeps_satisfying }
