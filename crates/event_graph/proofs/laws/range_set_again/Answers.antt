use Rattle.event_graph.proofs.RangeSet.{range_set_again}
use Rattle.event_graph.proofs.laws.range_set_again.Goals as goal

pub returns : goal.returns
returns c = record { law = range_set_again }
