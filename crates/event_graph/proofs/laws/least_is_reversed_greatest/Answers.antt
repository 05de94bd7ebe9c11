use Rattle.event_graph.proofs.Reversing.{least_is_reversed_greatest}
use Rattle.event_graph.proofs.laws.least_is_reversed_greatest.Goals as goal

pub returns : goal.returns
returns c = record { law = least_is_reversed_greatest }
