-- Edges lead between events of the network.
use Rattle.std.proofs.Common.{◌≡◌, ◌<◌, ℕ, Some, slice_get, subst}
use Rattle.itv_base.specs.declared.names.EdgeName.{EdgeName}
use Rattle.itv_base.specs.declared.names.EventId.{EventId}
use Rattle.itv_base.specs.declared.names.Side.{Side}
use Rattle.itv_base.specs.declared.names.Side.TheVariants.{Lower, Upper}
use Rattle.itv_base.proofs.Options.{mapped_some, then_some}
use Rattle.event_graph.specs.declared.cause.Cause.{Cause}
use Rattle.event_graph.specs.declared.edge.Edge.{Edge}
use Rattle.event_graph.specs.Edges.{edge, side_edge}
use Rattle.event_graph.specs.Network.{IsConstraint, IsNet, Net}
use Rattle.event_graph.proofs.EdgesMet.{All-found}

-- both ends of an edge are events of the network
pub record IsBetween (events : ℕ) (e : Edge) : Type 0 where
  pub from : e.from.0 < events
  pub to : e.to.0 < events

ends_of : (events : ℕ) (side : Side) (target : EventId) (c : Cause) (e : Edge) → target.0 < events → c.event.0 < events → side_edge side target c ≡ Some e → IsBetween events e
ends_of events Upper target c e in_target in_cause is =
    let (high, at_high, made) = mapped_some _ c.range.high e is in
    subst (IsBetween events) made (record { from = in_cause; to = in_target })
ends_of events Lower target c e in_target in_cause is =
    let (low, at_low, made) = mapped_some _ c.range.low e is in
    subst (IsBetween events) made (record { from = in_target; to = in_cause })

pub edge_between : (net : Net) (name : EdgeName) (e : Edge) → IsNet net → edge net name ≡ Some e → IsBetween net.events e
edge_between net name e is_net is_edge =
    let (k, at_k, rest) = then_some _ (slice_get net.constraints name.constraint) e is_edge in
    let (c, at_c, made) = then_some _ (slice_get k.causes name.cause) e rest in
    let is : IsConstraint net.events k = All-found (IsConstraint net.events) net.constraints name.constraint k at_k is_net.constraints in
    let in_cause : c.event.0 < net.events = All-found (λ (x : Cause). x.event.0 < net.events) k.causes name.cause c at_c is.causes in
    ends_of net.events name.side k.target c e is.target in_cause made
