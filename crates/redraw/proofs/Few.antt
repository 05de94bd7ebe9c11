-- In a design with few events all are drawn, and the drawn times satisfy it.
use Rattle.std.proofs.Common.{◌≡◌, ◌+◌, ◌<◌, ◌≤◌, ◌==◌, ◌⊎◌, inl, inr, ℕ, zero, suc, ℤ, pos, ◌-ℤ◌, Bool, true, false, not, cond, if◌then◌else◌, List, [], ◌∷◌, ◌++◌, length, map, filter, take, ◌∙◌, refl, sym, ap, subst, arith, eq-eqb, eqb-true, ne_eqb}
use Rattle.std.specs.List.{range_with_len}
use Rattle.std.proofs.lemmas.Bool.{cases_eq, eqb-false, or_left, or_right}
use Rattle.std.proofs.lemmas.List.{take_all}
use Rattle.std.proofs.lemmas.List.FromFn.{get_or-map-range_with_len, length-map-range_with_len}
use Rattle.itv_base.specs.declared.names.EventId.{EventId}
use Rattle.event_graph.specs.Times.{separation, time_of}
use Rattle.falling.specs.Cap.{widest_end}
use Rattle.falling.proofs.Near.{IsKept, KeepsNear, satisfies_kept}
use Rattle.redraw.specs.declared.drawn_event.DrawnEvent.{DrawnEvent}
use Rattle.redraw.specs.declared.drawn_event.TheConstants.{MOST_DRAWN}
use Rattle.redraw.specs.Narrowing.{widest_gap}
use Rattle.redraw.specs.Order.{drawn_events, event, in_rank, is_other, ordered_events, timed_at}
use Rattle.redraw.specs.Drawing.{stands_drawn, time_in}
use Rattle.redraw.specs.Laws.{DrawnBelong, event_times}
use Rattle.redraw.proofs.Distinct.{Has, has_fold}
use Rattle.redraw.proofs.Farther.{any_kept, stands_same}
use Rattle.redraw.proofs.Past.{keeps_smaller, widest_within}

-- ---- how many events there are by rank

abbrev kept_in : (EventId → Bool) → ℕ → ℕ → List EventId
kept_in test a k = filter test (map event (range_with_len a k))

all_at_most : (test : EventId → Bool) (a k : ℕ) → length (kept_in test a k) ≤ k
all_at_most test a zero = omega arith
all_at_most test a (suc k) = by_test (test (event a)) (all_at_most test (a + 1) k) where
  by_test : (t : Bool) → length (kept_in test (a + 1) k) ≤ k → length (cond t (event a ∷ kept_in test (a + 1) k) (kept_in test (a + 1) k)) ≤ suc k
  by_test true rest = omega arith
  by_test false rest = omega arith

one_more : (t : Bool) (e : EventId) (rest : List EventId) (n k : ℕ) → length rest + n ≤ k → length (cond t (e ∷ rest) rest) + n ≤ suc k
one_more true e rest n k h = omega arith
one_more false e rest n k h = omega arith

none_more : (t : Bool) (e : EventId) (rest : List EventId) (n k : ℕ) → t ≡ false → length rest + n ≤ k → length (cond t (e ∷ rest) rest) + (n + 1) ≤ suc k
none_more true e rest n k is h = absurd (cc is)
none_more false e rest n k is h = omega arith

out_at : (test : EventId → Bool) (a e : ℕ) → a ≡ e → test (event e) ≡ false → test (event a) ≡ false
out_at test a e same h = ap (λ n. test (event n)) same ∙ h

one_out : (test : EventId → Bool) (e a k : ℕ) → a ≤ e → e < a + k → test (event e) ≡ false → length (kept_in test a k) + 1 ≤ k
one_out test e a zero least most out = absurd (omega arith)
one_out test e a (suc k) least most out = elim (cases_eq a e) [
  | inl same ↦ none_more (test (event a)) (event a) (kept_in test (a + 1) k) 0 k (out_at test a e same out) (omega (arith, all_at_most test (a + 1) k))
  | inr other ↦ one_more (test (event a)) (event a) (kept_in test (a + 1) k) 1 k (one_out test e (a + 1) k (omega arith) (omega arith) out)
]

two_out : (test : EventId → Bool) (e f a k : ℕ) → (e ≡ f → ⊥) → a ≤ e → e < a + k → a ≤ f → f < a + k → test (event e) ≡ false → test (event f) ≡ false → length (kept_in test a k) + 2 ≤ k
two_out test e f a zero apart least_e most_e least_f most_f out_e out_f = absurd (omega arith)
two_out test e f a (suc k) apart least_e most_e least_f most_f out_e out_f = elim (cases_eq a e) [
  | inl same ↦
      let behind : a + 1 ≤ f = elim (cases_eq a f) [ inl is ↦ absurd (apart (sym same ∙ is)) | inr other ↦ omega arith ] in
      none_more (test (event a)) (event a) (kept_in test (a + 1) k) 1 k (out_at test a e same out_e) (one_out test f (a + 1) k behind (omega arith) out_f)
  | inr other ↦ elim (cases_eq a f) [
    | inl same ↦ none_more (test (event a)) (event a) (kept_in test (a + 1) k) 1 k (out_at test a f same out_f) (one_out test e (a + 1) k (omega arith) (omega arith) out_e)
    | inr another ↦
        one_more (test (event a)) (event a) (kept_in test (a + 1) k) 2 k (two_out test e f (a + 1) k apart (omega arith) (omega arith) (omega arith) (omega arith) out_e out_f)
  ]
]

from_out : (from to : EventId) → is_other from to (event from.0) ≡ false
from_out from to = ap not (or_left (from.0 == from.0) (from.0 == to.0) (eq-eqb from.0 from.0 refl))

to_out : (from to : EventId) → is_other from to (event to.0) ≡ false
to_out from to = ap not (or_right (to.0 == from.0) (to.0 == to.0) (eq-eqb to.0 to.0 refl))

rank_few : (from to : EventId) (n : ℕ) → from.0 < n → to.0 < n → length (in_rank from to n) ≤ n
rank_few from to n in_from in_to = by_test (to.0 == from.0) refl where
  by_test : (t : Bool) → (to.0 == from.0) ≡ t → length (from ∷ ((if t then [] else to ∷ []) ++ kept_in (is_other from to) 0 n)) ≤ n
  by_test true is = omega (arith, one_out (is_other from to) from.0 0 n (omega arith) (omega arith) (from_out from to))
  by_test false is =
      omega (arith, two_out (is_other from to) from.0 to.0 0 n (λ same. eqb-false to.0 from.0 is (sym same)) (omega arith) (omega arith) (omega arith) (omega arith) (from_out from to) (to_out from to))

-- ---- each event is there

abbrev pub Among : EventId → List EventId → Type 0
Among e [] = ⊥
Among e (f ∷ fs) = (f.0 ≡ e.0) ⊎ Among e fs

among_kept : (test : EventId → Bool) (e : EventId) (a k : ℕ) → a ≤ e.0 → e.0 < a + k → test (event e.0) ≡ true → Among e (kept_in test a k)
among_kept test e a zero least most h = absurd (omega arith)
among_kept test e a (suc k) least most h = elim (cases_eq a e.0) [
  | inl same ↦ here (test (event a)) (ap (λ n. test (event n)) same ∙ h) same
  | inr other ↦ later (test (event a)) (among_kept test e (a + 1) k (omega arith) (omega arith) h)
] where
  here : (t : Bool) → t ≡ true → a ≡ e.0 → Among e (cond t (event a ∷ kept_in test (a + 1) k) (kept_in test (a + 1) k))
  here true is same = inl same
  here false is same = absurd (cc is)

  later : (t : Bool) → Among e (kept_in test (a + 1) k) → Among e (cond t (event a ∷ kept_in test (a + 1) k) (kept_in test (a + 1) k))
  later true rest = inr rest
  later false rest = rest

among_behind : (e : EventId) (t : Bool) (to : EventId) (rest : List EventId) → Among e rest → Among e ((if t then [] else to ∷ []) ++ rest)
among_behind e true to rest h = h
among_behind e false to rest h = inr h

among_pair : (e from to : EventId) (t : Bool) (rest : List EventId) → (to.0 == from.0) ≡ t → to.0 ≡ e.0 → Among e (from ∷ ((if t then [] else to ∷ []) ++ rest))
among_pair e from to true rest is same = inl (sym (eqb-true to.0 from.0 is) ∙ same)
among_pair e from to false rest is same = inr (inl same)

other_of : (from to e : EventId) → (e.0 ≡ from.0 → ⊥) → (e.0 ≡ to.0 → ⊥) → is_other from to (event e.0) ≡ true
other_of from to e f t = rw (ne_eqb e.0 from.0 f, ne_eqb e.0 to.0 t) refl

among_rank : (from to e : EventId) (n : ℕ) → e.0 < n → Among e (in_rank from to n)
among_rank from to e n within = elim (cases_eq e.0 from.0) [
  | inl same ↦ inl (sym same)
  | inr other ↦ elim (cases_eq e.0 to.0) [
    | inl same ↦ among_pair e from to (to.0 == from.0) _ refl (sym same)
    | inr another ↦ inr (among_behind e (to.0 == from.0) to _ (among_kept (is_other from to) e 0 n (omega arith) (omega arith) (other_of from to e other another)))
  ]
]

has_timed : (times : List ℤ) (e : EventId) (es : List EventId) → Among e es → Has e (map (timed_at times) es)
has_timed times e [] h = absurd h
has_timed times e (f ∷ fs) (inl same) = inl same
has_timed times e (f ∷ fs) (inr h) = inr (has_timed times e fs h)

has_each : (from to e : EventId) (n : ℕ) (times : List ℤ) → n ≤ MOST_DRAWN → from.0 < n → to.0 < n → e.0 < n → Has e (ordered_events from to n times)
unfolding drawn_events
has_each from to e n times few in_from in_to within =
    let all : take MOST_DRAWN (in_rank from to n) ≡ in_rank from to n = take_all MOST_DRAWN (in_rank from to n) (omega (arith, rank_few from to n in_from in_to)) in
    has_fold e [] (map (timed_at times) (take MOST_DRAWN (in_rank from to n)))
    (inr (has_timed times e (take MOST_DRAWN (in_rank from to n)) (subst (λ l. Among e l) (sym all) (among_rank from to e n within))))

-- ---- the drawn times, by event

at_event : (n : ℕ) (ss : List DrawnEvent) (e : EventId) → e.0 < n → time_of (event_times n ss) e ≡ time_in ss e
at_event n ss e within = get_or-map-range_with_len (λ (number : ℕ). time_in ss (event number)) 0 n e.0 e.0 (pos 0) within (omega arith)

belong_at : (n : ℕ) (ss : List DrawnEvent) (times : List ℤ) (a b : EventId) → a.0 < n → b.0 < n → IsKept widest_gap (separation times a b) (time_in ss b -ℤ time_in ss a)
    → IsKept widest_gap (separation times a b) (separation (event_times n ss) a b)
belong_at n ss times a b in_a in_b h = rw (at_event n ss b in_b, at_event n ss a in_a) h

pub drawn_belong : DrawnBelong
drawn_belong drawn row asked times is_net h there within few =
    let n : ℕ = drawn.net.events in
    let count : length times ≡ drawn.net.events = h.count in
    let same = stands_same drawn row asked times there count within in
    let keeps : KeepsNear widest_gap drawn.net.events times (event_times drawn.net.events (stands_drawn drawn row times)) =
    λ a b in_a in_b. belong_at drawn.net.events (stands_drawn drawn row times) times a b in_a in_b
    (rw same (any_kept asked.from asked.to a b (length times) times
    (has_each asked.from asked.to a (length times) times (omega arith) (omega (arith, within.0)) (omega (arith, within.1)) (omega arith))
    (has_each asked.from asked.to b (length times) times (omega arith) (omega (arith, within.0)) (omega (arith, within.1)) (omega arith)))) in
    satisfies_kept drawn.net times (event_times drawn.net.events (stands_drawn drawn row times)) is_net
    (length-map-range_with_len (λ (number : ℕ). time_in (stands_drawn drawn row times) (event number)) 0 drawn.net.events)
    (keeps_smaller widest_gap (widest_end drawn.net) drawn.net.events times _ (widest_within drawn.net is_net) keeps) h
