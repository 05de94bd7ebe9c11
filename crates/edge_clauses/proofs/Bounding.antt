-- Bounds that change, and go back to what they were.
use Rattle.std.proofs.Common.{◌≡◌, ◌+◌, ◌<◌, ◌≤◌, ◌⊎◌, ◌↔◌, inl, inr, ℕ, ℤ, pos, neg_ℤ, ◌≤ℤ◌, ◌<ℤ◌, Bool, false, IsTrue, List, [], ◌∷◌, ◌++◌, length, get_or, set, take, replicate, Some, slice_get, sym, ap, ◌∙◌, refl, subst, arith}
use Rattle.std.proofs.lemmas.Int.{ints}
use Rattle.std.proofs.lemmas.List.{get_or-set_other, get_or-set_same, get_or_past, length-replicate, length-set, set-get_or, set-set, take_more}
use Rattle.std.proofs.lemmas.Option.{get_or_from_slice_get, slice_get_within}
use Rattle.itv_base.specs.declared.names.EventId.{EventId}
use Rattle.event_graph.specs.Times.{time_of}
use Rattle.falling.proofs.Bounding.{replicated}
use Rattle.edge_clauses.specs.declared.bounds.BoundSide.TheVariants.{Up, Low}
use Rattle.edge_clauses.specs.declared.bounds.BoundChange.{BoundChange}
use Rattle.edge_clauses.specs.Step.Bounding.{AreCrossedAs, HasCrossed, Sides, pair_of, undone, with_bound}

-- ---- changes that are undone

-- the latest change is undone first
pub undone_push : (changes : List BoundChange) (change : BoundChange) (s : Sides) → undone (changes ++ change ∷ []) s ≡ undone changes (with_bound change.side change.event change.old s)
undone_push [] change s = refl
undone_push (first ∷ changes) change s = ap (with_bound first.side first.event first.old) (undone_push changes change s)

put_again : (values : List ℤ) (event : EventId) (value : ℤ) → set (set values event.0 value) event.0 (time_of values event) ≡ values
put_again values event value = set-set values event.0 value (time_of values event) ∙ set-get_or values event.0 (pos 0)

-- a bound that is put back
pub up_restored : (s : Sides) (event : EventId) (value : ℤ) → with_bound Up event (time_of s.up event) (with_bound Up event value s) ≡ s
up_restored s event value = ap (λ (values : List ℤ). record { up = values; low = s.low }) (put_again s.up event value)

pub low_restored : (s : Sides) (event : EventId) (value : ℤ) → with_bound Low event (time_of s.low event) (with_bound Low event value s) ≡ s
low_restored s event value = ap (λ (values : List ℤ). record { up = s.up; low = values }) (put_again s.low event value)

-- a bound that changed is undone with those before
pub up_undone : (changes : List BoundChange) (s : Sides) (event : EventId) (value : ℤ)
    → undone (changes ++ (record { side = Up; event = event; old = time_of s.up event }) ∷ []) (with_bound Up event value s) ≡ undone changes s
up_undone changes s event value =
    undone_push changes (record { side = Up; event = event; old = time_of s.up event }) (with_bound Up event value s) ∙ ap (undone changes) (up_restored s event value)

pub low_undone : (changes : List BoundChange) (s : Sides) (event : EventId) (value : ℤ)
    → undone (changes ++ (record { side = Low; event = event; old = time_of s.low event }) ∷ []) (with_bound Low event value s) ≡ undone changes s
low_undone changes s event value =
    undone_push changes (record { side = Low; event = event; old = time_of s.low event }) (with_bound Low event value s) ∙ ap (undone changes) (low_restored s event value)

-- one more of the latest changes undone
pub undone_at : (changes : List BoundChange) (place : ℕ) (change : BoundChange) (s next : Sides) → slice_get changes place ≡ Some change
    → next ≡ with_bound change.side change.event change.old s → undone (take place changes) next ≡ undone (take (place + 1) changes) s
undone_at changes place change s next at is_next =
    let within : place < length changes = slice_get_within changes place change at in
    ap (undone (take place changes)) is_next
    ∙ (sym (undone_push (take place changes) change s)
    ∙ ap (λ (cs : List BoundChange). undone cs s)
    (sym (take_more changes place change within ∙ ap (λ (c : BoundChange). take place changes ++ c ∷ []) (get_or_from_slice_get changes place change change at))))

-- ---- bounds that cross

event_or_other : (a b : EventId) → (a ≡ b) ⊎ (a.0 ≡ b.0 → ⊥)
event_or_other a b = elim (number a.0 b.0) [
  | inl same ↦ inl (ap (λ (n : ℕ). record { 0 = n }) same)
  | inr other ↦ inr other
] where
  number : (m n : ℕ) → (m ≡ n) ⊎ (m ≡ n → ⊥)
  number m n = grind arith

below : (a b c : ℤ) → a <ℤ b → b <ℤ c → a <ℤ c
below a b c p q = omega (arith, ints)

-- upper bounds that were crossed still are after one falls
up_stays_crossed : (s : Sides) (event : EventId) (value : ℤ) → event.0 < length s.up → value <ℤ time_of s.up event → HasCrossed s → HasCrossed (with_bound Up event value s)
up_stays_crossed s event value within lower (other, crossed) = elim (event_or_other other event) [
  | inl same ↦ (
    other,
    subst (λ (x : EventId). get_or (set s.up event.0 value) x.0 (pos 0) <ℤ get_or s.low x.0 (pos 0)) (sym same)
        (rw (get_or-set_same s.up event.0 value (pos 0) within) (below value (time_of s.up event) (time_of s.low event) lower
        (subst (λ (x : EventId). time_of s.up x <ℤ time_of s.low x) same crossed))),
  )
  | inr apart ↦ (other, rw (get_or-set_other s.up event.0 other.0 value (pos 0) apart) crossed)
]

pub up_crossed : (s : Sides) (event : EventId) (value : ℤ) → event.0 < length s.up → value <ℤ time_of s.up event
    → HasCrossed (with_bound Up event value s) ↔ (HasCrossed s ⊎ (value <ℤ time_of s.low event))
up_crossed s event value within lower = (
  (λ (other, crossed). elim (event_or_other other event) [
    | inl same ↦ inr (rw (get_or-set_same s.up event.0 value (pos 0) within) at (subst (λ (x : EventId). get_or (set s.up event.0 value) x.0 (pos 0) <ℤ get_or s.low x.0 (pos 0)) same crossed))
    | inr apart ↦ inl (other, rw (get_or-set_other s.up event.0 other.0 value (pos 0) apart) at crossed)
  ]),
  (λ either. elim either [
    | inl crossed ↦ up_stays_crossed s event value within lower crossed
    | inr here ↦ (event, rw (get_or-set_same s.up event.0 value (pos 0) within) here)
  ]),
)

low_stays_crossed : (s : Sides) (event : EventId) (value : ℤ) → event.0 < length s.low → time_of s.low event <ℤ value → HasCrossed s → HasCrossed (with_bound Low event value s)
low_stays_crossed s event value within higher (other, crossed) = elim (event_or_other other event) [
  | inl same ↦ (
    other,
    subst (λ (x : EventId). get_or s.up x.0 (pos 0) <ℤ get_or (set s.low event.0 value) x.0 (pos 0)) (sym same)
        (rw (get_or-set_same s.low event.0 value (pos 0) within) (below (time_of s.up event) (time_of s.low event) value
        (subst (λ (x : EventId). time_of s.up x <ℤ time_of s.low x) same crossed) higher)),
  )
  | inr apart ↦ (other, rw (get_or-set_other s.low event.0 other.0 value (pos 0) apart) crossed)
]

pub low_crossed : (s : Sides) (event : EventId) (value : ℤ) → event.0 < length s.low → time_of s.low event <ℤ value
    → HasCrossed (with_bound Low event value s) ↔ (HasCrossed s ⊎ (time_of s.up event <ℤ value))
low_crossed s event value within higher = (
  (λ (other, crossed). elim (event_or_other other event) [
    | inl same ↦ inr (rw (get_or-set_same s.low event.0 value (pos 0) within) at (subst (λ (x : EventId). get_or s.up x.0 (pos 0) <ℤ get_or (set s.low event.0 value) x.0 (pos 0)) same crossed))
    | inr apart ↦ inl (other, rw (get_or-set_other s.low event.0 other.0 value (pos 0) apart) at crossed)
  ]),
  (λ either. elim either [
    | inl crossed ↦ low_stays_crossed s event value within higher crossed
    | inr here ↦ (event, rw (get_or-set_same s.low event.0 value (pos 0) within) here)
  ]),
)

-- no bounds are crossed at the start
pub start_not_crossed : (n : ℕ) (cap : ℤ) (from : EventId) → pos 0 ≤ℤ cap
    → HasCrossed (record { up = set (replicate n cap) from.0 (pos 0); low = set (replicate n (neg_ℤ cap)) from.0 (pos 0) }) → ⊥
start_not_crossed n cap from least (event, crossed) = elim (within_or_past event.0 n) [
  | inl within ↦ elim (event_or_other event from) [
    | inl same ↦ at_from (subst (λ (x : EventId). get_or (set (replicate n cap) from.0 (pos 0)) x.0 (pos 0) <ℤ get_or (set (replicate n (neg_ℤ cap)) from.0 (pos 0)) x.0 (pos 0)) same crossed)
        (subst (λ (x : EventId). x.0 < n) same within)
    | inr apart ↦ not_less cap least
        (rw (
          get_or-set_other (replicate n cap) from.0 event.0 (pos 0) (pos 0) apart,
          get_or-set_other (replicate n (neg_ℤ cap)) from.0 event.0 (pos 0) (pos 0) apart,
          replicated n event.0 cap (pos 0) within,
          replicated n event.0 (neg_ℤ cap) (pos 0) within,
        ) at crossed)
  ]
  | inr past ↦ zero_less (rw (get_or_past (set (replicate n cap) from.0 (pos 0)) event.0 (pos 0) (past_set cap past), get_or_past (set (replicate n (neg_ℤ cap)) from.0 (pos 0)) event.0 (pos 0) (past_set (neg_ℤ cap) past)) at crossed)
] where
  within_or_past : (i n : ℕ) → (i < n) ⊎ (n ≤ i)
  within_or_past i n = grind arith

  zero_less : pos 0 <ℤ pos 0 → ⊥
  zero_less h = omega (arith, ints)

  not_less : (cap : ℤ) → pos 0 ≤ℤ cap → cap <ℤ neg_ℤ cap → ⊥
  not_less cap least h = omega (arith, ints)

  past_set : (x : ℤ) → n ≤ event.0 → length (set (replicate n x) from.0 (pos 0)) ≤ event.0
  past_set x past = omega (arith, length-set (replicate n x) from.0 (pos 0), length-replicate n x)

  at_from : get_or (set (replicate n cap) from.0 (pos 0)) from.0 (pos 0) <ℤ get_or (set (replicate n (neg_ℤ cap)) from.0 (pos 0)) from.0 (pos 0) → from.0 < n → ⊥
  at_from here within =
      let up : from.0 < length (replicate n cap) = omega (arith, length-replicate n cap) in
      let low : from.0 < length (replicate n (neg_ℤ cap)) = omega (arith, length-replicate n (neg_ℤ cap)) in
      zero_less (rw (get_or-set_same (replicate n cap) from.0 (pos 0) (pos 0) up, get_or-set_same (replicate n (neg_ℤ cap)) from.0 (pos 0) (pos 0) low) at here)

-- ---- the flags

pub up_flags : (changes pushed : List BoundChange) (up low after : List ℤ) (event : EventId) (value : ℤ) (crossed had flag above : Bool) → event.0 < length up → value <ℤ time_of up event
    → pushed ≡ changes ++ (record { side = Up; event = event; old = time_of up event }) ∷ [] → after ≡ set up event.0 value
    → AreCrossedAs crossed had (pair_of changes up low) → IsTrue above ↔ (value <ℤ time_of low event) → IsTrue flag ↔ (IsTrue crossed ⊎ IsTrue above)
    → AreCrossedAs flag had (pair_of pushed after low)
up_flags changes pushed up low after event value crossed had flag above within lower is_pushed is_after flags is_above either =
    rw (is_pushed, is_after) (record {
      now = (
        (λ t. (up_crossed (record { up = up; low = low }) event value within lower).1 (elim (either.0 t) [
          | inl before ↦ inl (flags.now.0 before)
          | inr here ↦ inr (is_above.0 here)
        ])),
        (λ h. either.1 (elim ((up_crossed (record { up = up; low = low }) event value within lower).0 h) [
          | inl before ↦ inl (flags.now.1 before)
          | inr here ↦ inr (is_above.1 here)
        ])),
      );
      outside = rw (up_undone changes (record { up = up; low = low }) event value) flags.outside;
    })

pub low_flags : (changes pushed : List BoundChange) (up low after : List ℤ) (event : EventId) (value : ℤ) (crossed had flag beneath : Bool) → event.0 < length low → time_of low event <ℤ value
    → pushed ≡ changes ++ (record { side = Low; event = event; old = time_of low event }) ∷ [] → after ≡ set low event.0 value
    → AreCrossedAs crossed had (pair_of changes up low) → IsTrue beneath ↔ (time_of up event <ℤ value) → IsTrue flag ↔ (IsTrue crossed ⊎ IsTrue beneath)
    → AreCrossedAs flag had (pair_of pushed up after)
low_flags changes pushed up low after event value crossed had flag beneath within higher is_pushed is_after flags is_beneath either =
    rw (is_pushed, is_after) (record {
      now = (
        (λ t. (low_crossed (record { up = up; low = low }) event value within higher).1 (elim (either.0 t) [
          | inl before ↦ inl (flags.now.0 before)
          | inr here ↦ inr (is_beneath.0 here)
        ])),
        (λ h. either.1 (elim ((low_crossed (record { up = up; low = low }) event value within higher).0 h) [
          | inl before ↦ inl (flags.now.1 before)
          | inr here ↦ inr (is_beneath.1 here)
        ])),
      );
      outside = rw (low_undone changes (record { up = up; low = low }) event value) flags.outside;
    })

pub up_outside : (changes pushed : List BoundChange) (up low after : List ℤ) (event : EventId) (value : ℤ) → pushed ≡ changes ++ (record { side = Up; event = event; old = time_of up event }) ∷ []
    → after ≡ set up event.0 value → undone pushed (record { up = after; low = low }) ≡ undone changes (record { up = up; low = low })
up_outside changes pushed up low after event value is_pushed is_after = rw (is_pushed, is_after) (up_undone changes (record { up = up; low = low }) event value)

pub low_outside : (changes pushed : List BoundChange) (up low after : List ℤ) (event : EventId) (value : ℤ) → pushed ≡ changes ++ (record { side = Low; event = event; old = time_of low event }) ∷ []
    → after ≡ set low event.0 value → undone pushed (record { up = up; low = after }) ≡ undone changes (record { up = up; low = low })
low_outside changes pushed up low after event value is_pushed is_after = rw (is_pushed, is_after) (low_undone changes (record { up = up; low = low }) event value)

pub start_flags : (changes : List BoundChange) (up low : List ℤ) (n : ℕ) (cap : ℤ) (from : EventId) → pos 0 ≤ℤ cap → changes ≡ [] → up ≡ replicate n cap → low ≡ replicate n (neg_ℤ cap)
    → AreCrossedAs false false (pair_of changes (set up from.0 (pos 0)) (set low from.0 (pos 0)))
start_flags changes up low n cap from least none is_up is_low = rw (none, is_up, is_low) (record { now = not_crossed; outside = not_crossed }) where
  not_crossed : IsTrue false ↔ HasCrossed (record { up = set (replicate n cap) from.0 (pos 0); low = set (replicate n (neg_ℤ cap)) from.0 (pos 0) })
  not_crossed = ((λ t. absurd (cc)), (λ h. absurd (start_not_crossed n cap from least h)))
