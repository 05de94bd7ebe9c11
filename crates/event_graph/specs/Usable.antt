-- Times that meet the edges that a proof may use in a case.
use Rattle.std.specs.Prelude.{◌≡◌, ℤ, List, length, Some}
use Rattle.itv_base.specs.declared.names.EdgeName.{EdgeName}
use Rattle.event_graph.specs.declared.edge.Edge.{Edge}
use Rattle.event_graph.specs.Edges.{Meets, edge}
use Rattle.event_graph.specs.Network.{Net}
use Rattle.event_graph.specs.Proof.{Case, IsUsable}

-- there are as many times as events, and they meet each edge that may be used in the case
pub record MeetsUsable (net : Net) (chosen : Case) (times : List ℤ) : Type 0 where
  pub count : length times ≡ net.events
  pub each : (name : EdgeName) (e : Edge) → IsUsable net chosen name → edge net name ≡ Some e → Meets times e
