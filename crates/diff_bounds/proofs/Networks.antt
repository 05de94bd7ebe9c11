-- The edges of a network are between its events, and their weights are within the limit.
use Rattle.std.proofs.Common.{◌≡◌, ◌<◌, ℕ, ℤ, neg_ℤ, Option, Some, subst, refl, arith}
use Rattle.std.proofs.lemmas.Int.{ints}
use Rattle.std.proofs.lemmas.Option.{option_and_then_some}
use Rattle.itv_base.specs.Range.{IsEnd}
use Rattle.itv_base.specs.declared.names.EdgeName.{EdgeName}
use Rattle.itv_base.specs.declared.names.EventId.{EventId}
use Rattle.itv_base.specs.declared.names.Side.{Side}
use Rattle.itv_base.specs.declared.names.Side.TheVariants.{Lower, Upper}
use Rattle.itv_base.proofs.Options.{mapped_some}
use Rattle.event_graph.specs.declared.cause.Cause.{Cause}
use Rattle.event_graph.specs.declared.edge.Edge.{Edge}
use Rattle.event_graph.specs.Edges.{edge, side_edge}
use Rattle.event_graph.specs.Network.{AreEnds, IsConstraint, IsNet, Net, cause_at}
use Rattle.event_graph.proofs.EdgesMet.{All-found, cause_of}
use Rattle.diff_bounds.specs.Labels.{IsEdgeWithin}

at_end : (o : Option ℤ) (x : ℤ) → o ≡ Some x → IsEnd o → IsEnd (Some x)
at_end o x is end = let P : Option ℤ → Type 0 = IsEnd in subst P is end

side_within : (side : Side) (events : ℕ) (target : EventId) (c : Cause) (e : Edge) → target.0 < events → c.event.0 < events → AreEnds c.range → side_edge side target c ≡ Some e → IsEdgeWithin events e
side_within Upper events target c e to from ends is =
    let found = mapped_some (λ (high : ℤ). record { from = c.event; to = target; weight = high }) c.range.high e is in
    let end = at_end c.range.high found.0 found.1 ends.1 in
    let P : Edge → Type 0 = λ x. IsEdgeWithin events x in
    subst P found.2 (record { from = from; to = to; low = omega (arith, ints, end.0); high = omega (arith, ints, end.1) })
side_within Lower events target c e to from ends is =
    let found = mapped_some (λ (low : ℤ). record { from = target; to = c.event; weight = neg_ℤ low }) c.range.low e is in
    let end = at_end c.range.low found.0 found.1 ends.0 in
    let P : Edge → Type 0 = λ x. IsEdgeWithin events x in
    subst P found.2 (record { from = to; to = from; low = omega (arith, ints, end.1); high = omega (arith, ints, end.0) })

pub edge_within : (net : Net) (name : EdgeName) (e : Edge) → IsNet net → edge net name ≡ Some e → IsEdgeWithin net.events e
edge_within net name e is_net is =
    option_and_then_some _ _ _ is
    (λ k at _.
    let found = cause_of net name k e at is in
    let allowed = All-found (IsConstraint net.events) net.constraints name.constraint k at is_net.constraints in
    let event = All-found (λ (c : Cause). c.event.0 < net.events) k.causes name.cause found.0 found.1 allowed.causes in
    let there : cause_at net name.constraint name.cause ≡ Some found.0 = rw (at, found.1) refl in
    side_within name.side net.events k.target found.0 e allowed.target event (is_net.ends name.constraint name.cause found.0 there) found.2)
