-- Constraints and networks by their edges.
use Rattle.std.proofs.Common.{◌≡◌, ◌<◌, ℕ, ℤ, IsTrue, List, All, Any, length, get_or, Option, Some, None, IfSome, IsSomeAnd, slice_get, ap, ◌∙◌, refl, subst, arith}
use Rattle.std.proofs.lemmas.Option.{get_or_from_slice_get, slice_get-get_or, slice_get_within}
use Rattle.itv_base.specs.declared.names.EdgeName.{EdgeName}
use Rattle.itv_base.specs.declared.names.RuleKind.{RuleKind}
use Rattle.itv_base.specs.declared.names.RuleKind.TheVariants.{Lin, Late, Early}
use Rattle.itv_base.specs.declared.names.Side.{Side}
use Rattle.itv_base.specs.declared.names.Side.TheVariants.{Lower, Upper}
use Rattle.itv_base.proofs.Options.{if_some}
use Rattle.itv_base.proofs.Lists.{found_below}
use Rattle.event_graph.specs.declared.cause.Cause.{Cause}
use Rattle.event_graph.specs.declared.edge.Edge.{Edge}
use Rattle.event_graph.specs.Network.{Constraint, Net}
use Rattle.event_graph.specs.Satisfying.{Holds, HoldsAs}
use Rattle.event_graph.specs.Edges.{IsAlways, Meets, choice_side, edge, holds_always, side_edge}
use Rattle.event_graph.specs.Proof.{HasChoice}
use Rattle.event_graph.specs.Laws.{HoldsByEdges, MeetsAlwaysOf, MeetsSomeChoice, NoRootIsInconsistent, RootBoundEncloses, SatisfyingIsMeetingAlways, SatisfyingMeetsAlways, SingleCauseIsLinear}
use Rattle.event_graph.proofs.EdgesMet.{All-found, Allows, allows_side, always_allows, at_some, cause_of, edge-at, meets_side}

-- an always-edge of a constraint that is there is on a side that always holds
always_of : (net : Net) (name : EdgeName) (k : Constraint) → slice_get net.constraints name.constraint ≡ Some k → IsAlways net name
    → IsTrue (holds_always k.kind (length k.causes) name.side)
always_of net name k at_k always =
    let P : Option Constraint → Type 0 = λ o. IsSomeAnd o (λ c. IsTrue (holds_always c.kind (length c.causes) name.side)) in
    subst P at_k always.1

-- times meet the always-edges of a constraint that holds
pub holds_always_edges : (net : Net) (number : ℕ) (k : Constraint) (times : List ℤ) → slice_get net.constraints number ≡ Some k → Holds times k
    → MeetsAlwaysOf times net number
holds_always_edges net number k times at_k h name e is_number always is_edge =
    let at_name : slice_get net.constraints name.constraint ≡ Some k = ap (slice_get net.constraints) is_number ∙ at_k in
    let found = cause_of net name k e at_name is_edge in
    let allows : Allows name.side times k.target found.0 =
    always_allows k.kind name.side times k.target k.causes name.cause found.0 h found.1 (always_of net name k at_name always) in
    at_some (Meets times) (side_edge name.side k.target found.0) e found.2 (meets_side name.side times k.target found.0 allows)

-- an edge on a side that always holds is an always-edge
is_always : (net : Net) (name : EdgeName) (k : Constraint) (e : Edge) → slice_get net.constraints name.constraint ≡ Some k → edge net name ≡ Some e
    → IsTrue (holds_always k.kind (length k.causes) name.side) → IsAlways net name
is_always net name k e at_k is_edge always = (rw is_edge refl, rw at_k always)

-- if times meet the edge of a cause on a side, or there is no such edge, that side allows the times
allowed_by_edge : (net : Net) (name : EdgeName) (k : Constraint) (c : Cause) (times : List ℤ) → slice_get net.constraints name.constraint ≡ Some k
    → slice_get k.causes name.cause ≡ Some c → IfSome (edge net name) (Meets times) → Allows name.side times k.target c
allowed_by_edge net name k c times at_k at_c h = allows_side name.side times k.target c (rw (edge-at net name k c at_k at_c) at h)

-- a side that always holds allows the times that meet its edges
allowed_always : (net : Net) (number : ℕ) (k : Constraint) (times : List ℤ) (side : Side) (cause : ℕ) (c : Cause) → slice_get net.constraints number ≡ Some k
    → slice_get k.causes cause ≡ Some c → IsTrue (holds_always k.kind (length k.causes) side) → MeetsAlwaysOf times net number → Allows side times k.target c
allowed_always net number k times side cause c at_k at_c always meets =
    let name : EdgeName = record { constraint = number; cause = cause; side = side } in
    allowed_by_edge net name k c times at_k at_c
    (if_some (edge net name) (Meets times) (λ e is_edge. meets name e refl (is_always net name k e at_k is_edge always) is_edge))

all_allowed : (net : Net) (number : ℕ) (k : Constraint) (times : List ℤ) (side : Side) → slice_get net.constraints number ≡ Some k
    → IsTrue (holds_always k.kind (length k.causes) side) → MeetsAlwaysOf times net number → All (Allows side times k.target) k.causes
all_allowed net number k times side at_k always meets =
    λ i d within. allowed_always net number k times side i (get_or k.causes i d) at_k (slice_get-get_or k.causes i d within) always meets

-- if times meet a choice, some cause allows them on the choice side
some_allowed : (net : Net) (number : ℕ) (k : Constraint) (times : List ℤ) → slice_get net.constraints number ≡ Some k → MeetsSomeChoice times net number k
    → Any (Allows (choice_side k.kind) times k.target) k.causes
some_allowed net number k times at_k (cause, within, met) =
    let found = found_below k.causes cause within in
    let name : EdgeName = record { constraint = number; cause = cause; side = choice_side k.kind } in
    (cause, found.0, within, get_or_from_slice_get k.causes cause found.0 found.0 found.1, allowed_by_edge net name k found.0 times at_k found.1 met)

holds_from_edges : (kind : RuleKind) (net : Net) (number : ℕ) (k : Constraint) (times : List ℤ) → k.kind ≡ kind → slice_get net.constraints number ≡ Some k
    → MeetsAlwaysOf times net number → (HasChoice kind → MeetsSomeChoice times net number k) → HoldsAs kind times k.target k.causes
holds_from_edges Lin net number k times is_kind at_k meets choice =
    (all_allowed net number k times Lower at_k (rw is_kind refl) meets, all_allowed net number k times Upper at_k (rw is_kind refl) meets)
holds_from_edges Late net number k times is_kind at_k meets choice =
    let some = some_allowed net number k times at_k (choice tt) in
    (all_allowed net number k times Lower at_k (rw is_kind refl) meets, rw is_kind at some)
holds_from_edges Early net number k times is_kind at_k meets choice =
    let some = some_allowed net number k times at_k (choice tt) in
    (all_allowed net number k times Upper at_k (rw is_kind refl) meets, rw is_kind at some)

-- if some cause allows the times on a side, they meet its edge there
met_choice : (net : Net) (number : ℕ) (k : Constraint) (times : List ℤ) (side : Side) → slice_get net.constraints number ≡ Some k → Any (Allows side times k.target) k.causes
    → (cause : ℕ) × (cause < length k.causes) × IfSome (edge net (record { constraint = number; cause = cause; side = side })) (Meets times)
met_choice net number k times side at_k (cause, c, within, here, allows) =
    let at_c : slice_get k.causes cause ≡ Some c = slice_get-get_or k.causes cause c within ∙ ap Some here in
    (cause, within, rw (edge-at net (record { constraint = number; cause = cause; side = side }) k c at_k at_c) (meets_side side times k.target c allows))

pub choice_from_holding : (kind : RuleKind) (net : Net) (number : ℕ) (k : Constraint) (times : List ℤ) → k.kind ≡ kind → slice_get net.constraints number ≡ Some k
    → HoldsAs kind times k.target k.causes → HasChoice kind → MeetsSomeChoice times net number k
choice_from_holding Lin net number k times is_kind at_k h has = absurd has
choice_from_holding Late net number k times is_kind at_k h has = rw is_kind (met_choice net number k times Upper at_k h.1)
choice_from_holding Early net number k times is_kind at_k h has = rw is_kind (met_choice net number k times Lower at_k h.1)

pub holds_by_edges : HoldsByEdges
holds_by_edges net number k times is_net at_k = (
  (λ h. (holds_always_edges net number k times at_k h, choice_from_holding k.kind net number k times refl at_k h)),
  (λ met. holds_from_edges k.kind net number k times refl at_k met.0 met.1),
)

-- both sides of a constraint of one cause always hold
single_always : (kind : RuleKind) (count : ℕ) (side : Side) → count ≡ 1 → IsTrue (holds_always kind count side)
single_always Lin count side single = refl
single_always Late count Lower single = refl
single_always Late count Upper single = grind arith
single_always Early count Lower single = grind arith
single_always Early count Upper single = refl

pub single_cause_is_linear : SingleCauseIsLinear
single_cause_is_linear net number k times is_net at_k single = (
  (λ h side.
      let name : EdgeName = record { constraint = number; cause = 0; side = side } in
      if_some (edge net name) (Meets times)
      (λ e is_edge. holds_always_edges net number k times at_k h name e refl
      (is_always net name k e at_k is_edge (single_always k.kind (length k.causes) side single)) is_edge)),
  (λ both. holds_from_edges k.kind net number k times refl at_k
      (λ name e is_number always is_edge.
      let at_name : slice_get net.constraints name.constraint ≡ Some k = ap (slice_get net.constraints) is_number ∙ at_k in
      let is_first : name.cause ≡ 0 = omega (arith, slice_get_within k.causes name.cause _ (cause_of net name k e at_name is_edge).1) in
      let Named : ℕ → ℕ → Type 0 = λ n c. edge net (record { constraint = n; cause = c; side = name.side }) ≡ Some e in
      let is_first_edge : Named number 0 = subst (λ c. Named number c) is_first (subst (λ n. Named n name.cause) is_number is_edge) in
      at_some (Meets times) (edge net (record { constraint = number; cause = 0; side = name.side })) e is_first_edge (both name.side))
      (λ _. (0, omega arith, both (choice_side k.kind)))),
)

some_of : {X : Type 0} (o : Option X) (P : X → Type 0) → IsSomeAnd o P → (x : X) × (o ≡ Some x)
some_of None P h = absurd h
some_of (Some x) P h = (x, refl)

pub satisfying_meets_always : SatisfyingMeetsAlways
satisfying_meets_always net times h = record {
  count = h.count;
  each = λ name e always is_edge.
      let found = some_of (slice_get net.constraints name.constraint) (λ (k : Constraint). IsTrue (holds_always k.kind (length k.causes) name.side)) always.1 in
      holds_always_edges net name.constraint found.0 times found.1 (All-found (Holds times) net.constraints name.constraint found.0 found.1 h.each) name e refl always
      is_edge;
}

-- a constraint of one cause holds if the times meet its always-edges
single_holds : (net : Net) (number : ℕ) (k : Constraint) (times : List ℤ) → slice_get net.constraints number ≡ Some k → length k.causes ≡ 1
    → MeetsAlwaysOf times net number → Holds times k
single_holds net number k times at_k single meets =
    holds_from_edges k.kind net number k times refl at_k meets (λ _.
    let name : EdgeName = record { constraint = number; cause = 0; side = choice_side k.kind } in (
      0,
      omega arith,
      if_some (edge net name) (Meets times)
          (λ e is_edge. meets name e refl (is_always net name k e at_k is_edge (single_always k.kind (length k.causes) (choice_side k.kind) single)) is_edge),
    ))

pub satisfying_is_meeting_always : SatisfyingIsMeetingAlways
satisfying_is_meeting_always net times is_net single = (
  satisfying_meets_always net times,
  (λ met. record {
    count = met.count;
    each = λ k d within.
        single_holds net k (get_or net.constraints k d) times (slice_get-get_or net.constraints k d within) (single k d within)
        (λ name e _ always is_edge. met.each name e always is_edge);
  }),
)

pub root_bound_encloses : RootBoundEncloses
root_bound_encloses net from to value times bound h = bound.most times (satisfying_meets_always net times h)

pub no_root_is_inconsistent : NoRootIsInconsistent
no_root_is_inconsistent net no_root times h = no_root times (satisfying_meets_always net times h)
