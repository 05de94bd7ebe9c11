-- Times that meet the edges of a constraint.
use Rattle.std.proofs.Common.{◌≡◌, ℕ, ℤ, neg_ℤ, ◌+ℤ◌, ◌≤ℤ◌, IsTrue, List, All, Any, length, get_or, ◌+◌, Option, Some, None, IfSome, option_map, option_and_then, slice_get, sym, ap, ◌∙◌, refl, subst, arith}
use Rattle.std.proofs.lemmas.Int.{ints}
use Rattle.std.proofs.lemmas.Option.{get_or_from_slice_get, slice_get_within}
use Rattle.itv_base.specs.declared.names.EdgeName.{EdgeName}
use Rattle.itv_base.specs.declared.names.EventId.{EventId}
use Rattle.itv_base.specs.declared.names.RuleKind.{RuleKind}
use Rattle.itv_base.specs.declared.names.RuleKind.TheVariants.{Lin, Late, Early}
use Rattle.itv_base.specs.declared.names.Side.{Side}
use Rattle.itv_base.specs.declared.names.Side.TheVariants.{Lower, Upper}
use Rattle.event_graph.specs.declared.cause.Cause.{Cause}
use Rattle.event_graph.specs.declared.edge.Edge.{Edge}
use Rattle.event_graph.specs.Network.{Constraint, Net}
use Rattle.event_graph.specs.Satisfying.{HoldsAs, IsAfter, IsBefore}
use Rattle.event_graph.specs.Times.{time_of}
use Rattle.event_graph.specs.Edges.{Meets, edge, holds_always, side_edge}

-- what a side of a cause asks of the times
abbrev pub Allows : Side → List ℤ → EventId → Cause → Type 0
Allows Lower times target c = IsAfter times target c
Allows Upper times target c = IsBefore times target c

pub lower_met : (times : List ℤ) (target event : EventId) (low : Option ℤ) → IfSome low (λ l. (time_of times event +ℤ l) ≤ℤ time_of times target)
    → IfSome (option_map (λ l. record { from = target; to = event; weight = neg_ℤ l }) low) (Meets times)
lower_met times target event None h = tt
lower_met times target event (Some l) h = omega (arith, ints)

pub upper_met : (times : List ℤ) (target event : EventId) (high : Option ℤ) → IfSome high (λ h. time_of times target ≤ℤ (time_of times event +ℤ h))
    → IfSome (option_map (λ h. record { from = event; to = target; weight = h }) high) (Meets times)
upper_met times target event None h = tt
upper_met times target event (Some l) h = omega (arith, ints)

lower_asks : (times : List ℤ) (target event : EventId) (low : Option ℤ) → IfSome (option_map (λ l. record { from = target; to = event; weight = neg_ℤ l }) low) (Meets times)
    → IfSome low (λ l. (time_of times event +ℤ l) ≤ℤ time_of times target)
lower_asks times target event None h = tt
lower_asks times target event (Some l) h = omega (arith, ints)

upper_asks : (times : List ℤ) (target event : EventId) (high : Option ℤ) → IfSome (option_map (λ h. record { from = event; to = target; weight = h }) high) (Meets times)
    → IfSome high (λ h. time_of times target ≤ℤ (time_of times event +ℤ h))
upper_asks times target event None h = tt
upper_asks times target event (Some l) h = omega (arith, ints)

-- times meet the edge on a side if and only if the side allows them
pub meets_side : (side : Side) (times : List ℤ) (target : EventId) (c : Cause) → Allows side times target c → IfSome (side_edge side target c) (Meets times)
meets_side Lower times target c h = lower_met times target c.event c.range.low h
meets_side Upper times target c h = upper_met times target c.event c.range.high h

pub allows_side : (side : Side) (times : List ℤ) (target : EventId) (c : Cause) → IfSome (side_edge side target c) (Meets times) → Allows side times target c
allows_side Lower times target c h = lower_asks times target c.event c.range.low h
allows_side Upper times target c h = upper_asks times target c.event c.range.high h

-- the edge of a name whose constraint and cause are there
pub edge-at : (net : Net) (name : EdgeName) (k : Constraint) (c : Cause) → slice_get net.constraints name.constraint ≡ Some k → slice_get k.causes name.cause ≡ Some c
    → edge net name ≡ side_edge name.side k.target c
edge-at net name k c at_k at_c = rw (at_k, at_c) refl

cause_of_edge : (k : Constraint) (name : EdgeName) (e : Edge) (o : Option Cause) → slice_get k.causes name.cause ≡ o → option_and_then (side_edge name.side k.target) o ≡ Some e
    → (c : Cause) × (slice_get k.causes name.cause ≡ Some c) × (side_edge name.side k.target c ≡ Some e)
cause_of_edge k name e None at_c h = absurd (cc)
cause_of_edge k name e (Some c) at_c h = (c, at_c, h)

-- the cause of an edge whose constraint is there
pub cause_of : (net : Net) (name : EdgeName) (k : Constraint) (e : Edge) → slice_get net.constraints name.constraint ≡ Some k → edge net name ≡ Some e
    → (c : Cause) × (slice_get k.causes name.cause ≡ Some c) × (side_edge name.side k.target c ≡ Some e)
cause_of net name k e at_k h = cause_of_edge k name e (slice_get k.causes name.cause) refl (rw at_k at h)

-- what holds of the value in a `Some`
pub at_some : {X : Type 0} (P : X → Type 0) (o : Option X) (x : X) → o ≡ Some x → IfSome o P → P x
at_some {X = X} P o x is h = let Q : Option X → Type 0 = λ v. IfSome v P in subst Q is h

-- what holds of each element holds of an element that is found
pub All-found : {X : Type 0} (P : X → Type 0) (xs : List X) (i : ℕ) (x : X) → slice_get xs i ≡ Some x → All P xs → P x
All-found P xs i x at_x h = subst P (get_or_from_slice_get xs i x x at_x) (h i x (slice_get_within xs i x at_x))

-- in a list of one element, what holds of some element holds of this one
only_one : (P : Cause → Type 0) (causes : List Cause) (i : ℕ) (c : Cause) → length causes ≡ 1 → slice_get causes i ≡ Some c → Any P causes → P c
only_one P causes i c single at_c (k, x, within, here, h) =
    let here_too : k ≡ i = omega (arith, slice_get_within causes i c at_c) in
    subst P ((sym here ∙ ap (λ n. get_or causes n x) here_too) ∙ get_or_from_slice_get causes i c x at_c) h

-- a constraint that holds allows the times on each side that always holds
pub always_allows : (kind : RuleKind) (side : Side) (times : List ℤ) (target : EventId) (causes : List Cause) (i : ℕ) (c : Cause) → HoldsAs kind times target causes
    → slice_get causes i ≡ Some c → IsTrue (holds_always kind (length causes) side) → Allows side times target c
always_allows Lin Lower times target causes i c h at_c always = All-found (IsAfter times target) causes i c at_c h.0
always_allows Lin Upper times target causes i c h at_c always = All-found (IsBefore times target) causes i c at_c h.1
always_allows Late Lower times target causes i c h at_c always = All-found (IsAfter times target) causes i c at_c h.0
always_allows Late Upper times target causes i c h at_c always = only_one (IsBefore times target) causes i c (grind arith) at_c h.1
always_allows Early Lower times target causes i c h at_c always = only_one (IsAfter times target) causes i c (grind arith) at_c h.1
always_allows Early Upper times target causes i c h at_c always = All-found (IsBefore times target) causes i c at_c h.0
