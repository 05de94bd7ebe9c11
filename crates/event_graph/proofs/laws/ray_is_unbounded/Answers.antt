use Rattle.event_graph.proofs.Rays.{ray_is_unbounded}
use Rattle.event_graph.proofs.laws.ray_is_unbounded.Goals as goal

pub returns : goal.returns
returns c = record { law = ray_is_unbounded }
