-- Values that no line lowers satisfy a plain network.
use Rattle.std.proofs.Common.{◌≡◌, ◌<◌, ◌≤◌, ◌⊎◌, inl, inr, ℕ, zero, suc, ℤ, ◌+ℤ◌, ◌-ℤ◌, ◌≤ℤ◌, ◌<ℤ◌, IsTrue, false, List, [], ◌∷◌, All, Any, length, get_or, Option, Some, None, IsSome, IfSome, IsSomeAnd, option_map, slice_get, ap, ◌∙◌, refl, arith}
use Rattle.std.proofs.lemmas.Int.{ints}
use Rattle.std.proofs.lemmas.Option.{slice_get-get_or}
use Rattle.itv_base.specs.declared.names.EdgeName.{EdgeName}
use Rattle.itv_base.specs.declared.names.EventId.{EventId}
use Rattle.itv_base.specs.declared.names.RuleKind.{RuleKind}
use Rattle.itv_base.specs.declared.names.RuleKind.TheVariants.{Lin, Late, Early}
use Rattle.itv_base.specs.declared.names.Side.TheVariants.{Lower, Upper}
use Rattle.itv_base.proofs.Options.{if_some, some_at, and_some}
use Rattle.event_graph.specs.declared.cause.Cause.{Cause}
use Rattle.event_graph.specs.declared.edge.Edge.{Edge}
use Rattle.event_graph.specs.Edges.{IsAlways, Meets, edge, holds_always, side_edge}
use Rattle.event_graph.specs.Laws.{MeetsSomeChoice}
use Rattle.event_graph.specs.Network.{Constraint, IsCauseCount, IsConstraint, Net}
use Rattle.event_graph.specs.Proof.{HasChoice}
use Rattle.event_graph.specs.Times.{time_of}
use Rattle.event_graph.proofs.ByEdges.{holds_by_edges}
use Rattle.event_graph.proofs.EdgesMet.{edge-at}
use Rattle.falling.specs.declared.line.Reason.TheVariants.{ByEdge, ByLatest}
use Rattle.falling.specs.Derivation.{IsDueByEdge, IsDueByLatest, IsLatestHigh, IsFixedPoint}
use Rattle.falling.specs.Kinds.{is_choice}
use Rattle.falling.specs.Laws.{SettledSatisfies}
use Rattle.falling.proofs.Choosing.{not_choice}
use Rattle.falling.proofs.Near.{below_or_not}

-- settled values meet the always-edges
settled_meets : (net : Net) (values : List ℤ) (name : EdgeName) (e : Edge) → IsFixedPoint net values → IsAlways net name → edge net name ≡ Some e → Meets values e
settled_meets net values name e settled always is_edge = elim (below_or_not (time_of values e.from +ℤ e.weight) (time_of values e.to)) [
  | inl lower ↦
      let due : IsDueByEdge net values e.to (time_of values e.from +ℤ e.weight) name = (always, and_some (edge net name) _ e is_edge (refl, refl)) in
      absurd (settled (record { event = e.to; value = time_of values e.from +ℤ e.weight; reason = ByEdge name }) (record { due = due; lower = lower }))
  | inr met ↦ met_of (time_of values e.from) (time_of values e.to) e.weight met
] where
  met_of : (a b w : ℤ) → b ≤ℤ (a +ℤ w) → (b -ℤ a) ≤ℤ w
  met_of a b w h = omega (arith, ints)

-- ---- the greatest of the causes' values with their high ends

all_cons : (P : Cause → Type 0) (c : Cause) (cs : List Cause) → P c → All P cs → All P (c ∷ cs)
all_cons P c cs first rest = at_each where
  at_each : (i : ℕ) (d : Cause) → i < length (c ∷ cs) → P (get_or (c ∷ cs) i d)
  at_each zero d within = first
  at_each (suc i) d within = rest i d (omega arith)

any_later : (P : Cause → Type 0) (c : Cause) (cs : List Cause) → Any P cs → Any P (c ∷ cs)
any_later P c cs (i, d, within, here, h) = (suc i, d, omega arith, here, h)

any_here : (P : Cause → Type 0) (c : Cause) (cs : List Cause) → P c → Any P (c ∷ cs)
any_here P c cs h = (0, c, omega arith, refl, h)

pub none_all : (P : Cause → Type 0) → All P []
none_all P i d within = absurd (omega arith)

abbrev pub IsMost : List ℤ → ℤ → Cause → Type 0
IsMost values value c = IfSome c.range.high (λ high. (time_of values c.event +ℤ high) ≤ℤ value)

abbrev IsAttained : List ℤ → ℤ → Cause → Type 0
IsAttained values value c = IsSomeAnd c.range.high (λ high. value ≡ (time_of values c.event +ℤ high))

if_is : {X : Type 0} (o : Option X) (P : X → Type 0) (x : X) → o ≡ Some x → P x → IfSome o P
if_is o P x is h = rw is h

raised_most : (values : List ℤ) (low high : ℤ) (c : Cause) → low ≤ℤ high → IsMost values low c → IsMost values high c
raised_most values low high c le = by_high (time_of values c.event) c.range.high where
  by_high : (a : ℤ) (o : Option ℤ) → IfSome o (λ h. (a +ℤ h) ≤ℤ low) → IfSome o (λ h. (a +ℤ h) ≤ℤ high)
  by_high a None h = tt
  by_high a (Some e) h = omega (arith, ints)

pub latest_one : (values : List ℤ) (c : Cause) (cs : List Cause) (h : ℤ) → c.range.high ≡ Some h → All (IsMost values (time_of values c.event +ℤ h)) cs
    → IsLatestHigh values (c ∷ cs) (time_of values c.event +ℤ h)
latest_one values c cs h is rest = record {
  most = all_cons (IsMost values (time_of values c.event +ℤ h)) c cs (if_is c.range.high _ h is (omega (arith, ints))) rest;
  attained = any_here (IsAttained values (time_of values c.event +ℤ h)) c cs (and_some c.range.high _ h is refl);
}

latest_more : (values : List ℤ) (c : Cause) (cs : List Cause) (h value : ℤ) → c.range.high ≡ Some h → IsLatestHigh values cs value
    → (most : ℤ) × IsLatestHigh values (c ∷ cs) most
latest_more values c cs h value is latest = elim (below_or_not value (time_of values c.event +ℤ h)) [
  | inl less ↦ (
    time_of values c.event +ℤ h,
    latest_one values c cs h is
        (λ i x within. raised_most values value (time_of values c.event +ℤ h) (get_or cs i x) (le_of _ _ less) (latest.most i x within)),
  )
  | inr least ↦ (
    value,
    record {
      most = all_cons (IsMost values value) c cs (if_is c.range.high _ h is least) latest.most;
      attained = any_later (IsAttained values value) c cs latest.attained;
    },
  )
] where
  le_of : (a b : ℤ) → a <ℤ b → a ≤ℤ b
  le_of a b h = omega (arith, ints)

pub has_latest : (values : List ℤ) (c : Cause) (cs : List Cause) → All (λ (x : Cause). IsSome x.range.high) (c ∷ cs) → (value : ℤ) × IsLatestHigh values (c ∷ cs) value
has_latest values c [] finite =
    let (h, is) = some_at c.range.high (finite 0 c (omega arith)) in
    (time_of values c.event +ℤ h, latest_one values c [] h is (none_all (IsMost values (time_of values c.event +ℤ h))))
has_latest values c (d ∷ cs) finite =
    let (h, is) = some_at c.range.high (finite 0 c (omega arith)) in
    let (value, latest) = has_latest values d cs (λ i x within. finite (suc i) x (omega arith)) in
    latest_more values c (d ∷ cs) h value is latest

-- some cause has an open high end, or all are finite
pub is_some : (o : Option ℤ) (h : ℤ) → o ≡ Some h → IsSome o
is_some o h is = rw is refl

open_or_finite : (cs : List Cause) → ((i : ℕ) × (c : Cause) × (i < length cs) × (slice_get cs i ≡ Some c) × (c.range.high ≡ None)) ⊎ All (λ (x : Cause). IsSome x.range.high) cs
open_or_finite [] = inr (none_all _)
open_or_finite (c ∷ cs) = by_high c.range.high refl (open_or_finite cs) where
  by_high : (o : Option ℤ) → c.range.high ≡ o → ((i : ℕ) × (d : Cause) × (i < length cs) × (slice_get cs i ≡ Some d) × (d.range.high ≡ None)) ⊎ All (λ (x : Cause). IsSome x.range.high) cs
      → ((i : ℕ) × (d : Cause) × (i < length (c ∷ cs)) × (slice_get (c ∷ cs) i ≡ Some d) × (d.range.high ≡ None)) ⊎ All (λ (x : Cause). IsSome x.range.high) (c ∷ cs)
  by_high None is rest = inl (0, c, omega arith, refl, is)
  by_high (Some h) is (inl (i, d, within, at_d, is_open)) = inl (suc i, d, omega arith, at_d, is_open)
  by_high (Some h) is (inr all) = inr (all_cons (λ (x : Cause). IsSome x.range.high) c cs (is_some c.range.high h is) all)

open_edge : (values : List ℤ) (target : EventId) (c : Cause) → c.range.high ≡ None → IfSome (side_edge Upper target c) (Meets values)
open_edge values target c is_open = rw is_open tt

-- the upper edge of a cause is met if the target is at most the cause's value plus its high end
upper_met : (values : List ℤ) (target : EventId) (c : Cause) (value : ℤ) → IsAttained values value c → time_of values target ≤ℤ value → IfSome (side_edge Upper target c) (Meets values)
upper_met values target c value = by_high c.range.high where
  by_high : (o : Option ℤ) → IsSomeAnd o (λ high. value ≡ (time_of values c.event +ℤ high)) → time_of values target ≤ℤ value
      → IfSome (option_map (λ high. record { from = c.event; to = target; weight = high }) o) (Meets values)
  by_high None attained le = tt
  by_high (Some h) attained le = met_of (time_of values c.event) (time_of values target) h value attained le where
    met_of : (a b h value : ℤ) → value ≡ (a +ℤ h) → b ≤ℤ value → (b -ℤ a) ≤ℤ h
    met_of a b h value is le = omega (arith, ints)

-- a latest constraint has a met choice
latest_choice : (net : Net) (number : ℕ) (k : Constraint) (values : List ℤ) → slice_get net.constraints number ≡ Some k → k.kind ≡ Late → 1 ≤ length k.causes → IsFixedPoint net values
    → (cause : ℕ) × (cause < length k.causes) × IfSome (edge net (record { constraint = number; cause = cause; side = Upper })) (Meets values)
latest_choice net number k values at_k is_late some settled = elim (open_or_finite k.causes) [
  | inl (i, c, within, at_c, is_open) ↦
      (i, within, rw (edge-at net (record { constraint = number; cause = i; side = Upper }) k c at_k at_c) (open_edge values k.target c is_open))
  | inr finite ↦
      let (value, latest) = latest_of k.causes some finite in
      let (i, c, within, here, attained) = latest.attained in
      let at_c : slice_get k.causes i ≡ Some c = slice_get-get_or k.causes i c within ∙ ap Some here in
      let least : time_of values k.target ≤ℤ value = elim (below_or_not value (time_of values k.target)) [
        | inl lower ↦
            let due : IsDueByLatest net values k.target value number =
            and_some (slice_get net.constraints number) _ k at_k (record { kind = is_late; target = refl; finite = finite }, latest) in
            absurd (settled (record { event = k.target; value = value; reason = ByLatest number }) (record { due = due; lower = lower }))
        | inr at_least ↦ at_least
      ] in
      (i, within, rw (edge-at net (record { constraint = number; cause = i; side = Upper }) k c at_k at_c) (upper_met values k.target c value attained least))
] where
  latest_of : (cs : List Cause) → 1 ≤ length cs → All (λ (x : Cause). IsSome x.range.high) cs → (value : ℤ) × IsLatestHigh values cs value
  latest_of [] some finite = absurd (omega arith)
  latest_of (c ∷ cs) some finite = has_latest values c cs finite

some_cause : (kind : RuleKind) (count : ℕ) → IsCauseCount kind count → 1 ≤ count
some_cause Lin count h = omega arith
some_cause Late count h = h.0
some_cause Early count h = h.0

-- an earliest constraint of a plain network has one choice, which is met
early_choice : (net : Net) (number : ℕ) (k : Constraint) (values : List ℤ) → slice_get net.constraints number ≡ Some k → k.kind ≡ Early → length k.causes ≡ 1 → IsFixedPoint net values
    → (cause : ℕ) × (cause < length k.causes) × IfSome (edge net (record { constraint = number; cause = cause; side = Lower })) (Meets values)
early_choice net number k values at_k is_early single settled =
    let name : EdgeName = record { constraint = number; cause = 0; side = Lower } in (
      0,
      omega arith,
      if_some (edge net name) (Meets values) (λ e is_edge.
          settled_meets net values name e settled (rw is_edge refl, and_some (slice_get net.constraints number) _ k at_k (always_of k.kind (length k.causes) is_early single)) is_edge),
    ) where
      always_of : (kind : RuleKind) (count : ℕ) → kind ≡ Early → count ≡ 1 → IsTrue (holds_always kind count Lower)
      always_of Lin count is single = refl
      always_of Late count is single = refl
      always_of Early count is single = grind arith

some_choice : (net : Net) (number : ℕ) (k : Constraint) (values : List ℤ) (kind : RuleKind) → k.kind ≡ kind → slice_get net.constraints number ≡ Some k
    → 1 ≤ length k.causes → is_choice Early k.kind (length k.causes) ≡ false → IsFixedPoint net values → HasChoice kind → MeetsSomeChoice values net number k
some_choice net number k values Lin is at_k some plain settled has = absurd has
some_choice net number k values Late is at_k some plain settled has = rw is (latest_choice net number k values at_k is some settled)
some_choice net number k values Early is at_k some plain settled has =
    let single : length k.causes ≡ 1 = one_only k.kind (length k.causes) is some plain in
    rw is (early_choice net number k values at_k is single settled) where
      one_only : (kind : RuleKind) (n : ℕ) → kind ≡ Early → 1 ≤ n → is_choice Early kind n ≡ false → n ≡ 1
      one_only Lin n is some plain = absurd (cc is)
      one_only Late n is some plain = absurd (cc is)
      one_only Early n is some plain = grind arith

pub settled_satisfies : SettledSatisfies
settled_satisfies net values is_net plain count settled = record {
  count = count;
  each = λ i d within.
      let k : Constraint = get_or net.constraints i d in
      let at_k : slice_get net.constraints i ≡ Some (get_or net.constraints i d) = slice_get-get_or net.constraints i d within in
      let is : IsConstraint net.events (get_or net.constraints i d) = is_net.constraints i d within in
      (holds_by_edges net i (get_or net.constraints i d) values is_net at_k).1 (
        (λ name e is_number always is_edge. settled_meets net values name e settled always is_edge),
        some_choice net i (get_or net.constraints i d) values (get_or net.constraints i d).kind refl at_k
            (some_cause (get_or net.constraints i d).kind (length (get_or net.constraints i d).causes) is.count) (not_choice Early net.constraints 0 i d within plain) settled,
      );
}
