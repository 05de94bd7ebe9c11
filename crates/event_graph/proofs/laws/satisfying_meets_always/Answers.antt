use Rattle.event_graph.proofs.ByEdges.{satisfying_meets_always}
use Rattle.event_graph.proofs.laws.satisfying_meets_always.Goals as goal

pub returns : goal.returns
returns c = record { law = satisfying_meets_always }
