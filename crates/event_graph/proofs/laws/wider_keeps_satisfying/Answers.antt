use Rattle.event_graph.proofs.Widening.{wider_keeps_satisfying}
use Rattle.event_graph.proofs.laws.wider_keeps_satisfying.Goals as goal

pub returns : goal.returns
returns c = record { law = wider_keeps_satisfying }
