-- The drawn events are distinct, and the pair is among them.
use Rattle.std.proofs.Common.{◌≡◌, ◌+◌, ◌<◌, ◌==◌, ◌⊎◌, inl, inr, ℕ, ℤ, zero, suc, Bool, true, false, not, ◌||◌, cond, if◌then◌else◌, int_lt, List, [], ◌∷◌, ◌++◌, length, map, filter, fold, take, refl, sym, arith, eq-eqb, eqb-true}
use Rattle.std.proofs.lemmas.Bool.{eqb-false}
use Rattle.std.specs.List.{range_with_len}
use Rattle.itv_base.specs.declared.names.EventId.{EventId}
use Rattle.redraw.specs.declared.drawn_event.DrawnEvent.{DrawnEvent}
use Rattle.redraw.specs.declared.drawn_event.Timed.{Timed}
use Rattle.redraw.specs.declared.drawn_event.TheConstants.{MOST_DRAWN}
use Rattle.redraw.specs.Order.{drawn_events, event, in_rank, is_other, ordered_events, timed_at, with_timed}
use Rattle.redraw.specs.Drawing.{first_stand, next_stand, number_in, stands_after, stands_of}
use Rattle.redraw.proofs.Ordered.{AreNumbered, Every, every_take, every_with}

-- ---- no event twice

abbrev pub Apart : EventId → EventId → Type 0
Apart a b = a.0 ≡ b.0 → ⊥

abbrev pub AreApart : List EventId → Type 0
AreApart [] = Unit {0}
AreApart (e ∷ es) = Every (Apart e) es × AreApart es

apart_take : (n : ℕ) (es : List EventId) → AreApart es → AreApart (take n es)
apart_take zero es h = tt
apart_take (suc n) [] h = tt
apart_take (suc n) (e ∷ es) h = (every_take (Apart e) n es h.0, apart_take n es h.1)

abbrev filtered : (EventId → Bool) → ℕ → ℕ → List EventId
filtered test a k = filter test (map event (range_with_len a k))

from_range : (test : EventId → Bool) (e : EventId) (a k : ℕ) → e.0 < a → Every (Apart e) (filter test (map event (range_with_len a k)))
from_range test e a zero h = tt
from_range test e a (suc k) h = by_test (test (event a)) (λ same. omega arith) (from_range test e (a + 1) k (omega arith)) where
  by_test : (t : Bool) → Apart e (event a) → Every (Apart e) (filtered test (a + 1) k) → Every (Apart e) (cond t (event a ∷ filtered test (a + 1) k) (filtered test (a + 1) k))
  by_test true here rest = (here, rest)
  by_test false here rest = rest

range_apart : (test : EventId → Bool) (a k : ℕ) → AreApart (filter test (map event (range_with_len a k)))
range_apart test a zero = tt
range_apart test a (suc k) = by_test (test (event a)) (from_range test (event a) (a + 1) k (omega arith)) (range_apart test (a + 1) k) where
  by_test : (t : Bool) → Every (Apart (event a)) (filtered test (a + 1) k) → AreApart (filtered test (a + 1) k) → AreApart (cond t (event a ∷ filtered test (a + 1) k) (filtered test (a + 1) k))
  by_test true here rest = (here, rest)
  by_test false here rest = rest

other_is : (from to e : EventId) (a : ℕ) → (e.0 ≡ from.0) ⊎ (e.0 ≡ to.0) → is_other from to (event a) ≡ true → Apart e (event a)
other_is from to e a (inl is) h = λ same. not_both (a == from.0) (a == to.0) (eq-eqb a from.0 (omega arith)) h where
  not_both : (x y : Bool) → x ≡ true → not (x || y) ≡ true → ⊥
  not_both true y p q = absurd (cc q)
  not_both false y p q = absurd (cc p)
other_is from to e a (inr is) h = λ same. not_both (a == from.0) (a == to.0) (eq-eqb a to.0 (omega arith)) h where
  not_both : (x y : Bool) → y ≡ true → not (x || y) ≡ true → ⊥
  not_both true y p q = absurd (cc q)
  not_both false true p q = absurd (cc q)
  not_both false false p q = absurd (cc p)

others_apart : (from to e : EventId) (a k : ℕ) → (e.0 ≡ from.0) ⊎ (e.0 ≡ to.0) → Every (Apart e) (filter (is_other from to) (map event (range_with_len a k)))
others_apart from to e a zero is = tt
others_apart from to e a (suc k) is = by_test (is_other from to (event a)) refl (others_apart from to e (a + 1) k is) where
  by_test : (t : Bool) → is_other from to (event a) ≡ t → Every (Apart e) (filtered (is_other from to) (a + 1) k)
      → Every (Apart e) (cond t (event a ∷ filtered (is_other from to) (a + 1) k) (filtered (is_other from to) (a + 1) k))
  by_test true h rest = (other_is from to e a is h, rest)
  by_test false h rest = rest

rank_apart : (from to : EventId) (n : ℕ) → AreApart (in_rank from to n)
rank_apart from to n = by_test (to.0 == from.0) refl where
  by_test : (t : Bool) → (to.0 == from.0) ≡ t → AreApart (from ∷ ((if t then [] else to ∷ []) ++ filtered (is_other from to) 0 n))
  by_test true e = (others_apart from to from 0 n (inl refl), range_apart (is_other from to) 0 n)
  by_test false e = (
    (λ same. eqb-false to.0 from.0 e (sym same), others_apart from to from 0 n (inl refl)),
    (others_apart from to to 0 n (inr refl), range_apart (is_other from to) 0 n),
  )

pub drawn_apart : (from to : EventId) (n : ℕ) → AreApart (drawn_events from to n)
unfolding drawn_events
drawn_apart from to n = apart_take MOST_DRAWN (in_rank from to n) (rank_apart from to n)

abbrev pub TimedApart : Timed → Timed → Type 0
TimedApart x y = x.event.0 ≡ y.event.0 → ⊥

abbrev pub AllApart : List Timed → Type 0
AllApart [] = Unit {0}
AllApart (x ∷ xs) = Every (TimedApart x) xs × AllApart xs

timed_every : (times : List ℤ) (e : EventId) (es : List EventId) → Every (Apart e) es → Every (TimedApart (timed_at times e)) (map (timed_at times) es)
timed_every times e [] h = tt
timed_every times e (f ∷ fs) h = (h.0, timed_every times e fs h.1)

timed_apart : (times : List ℤ) (es : List EventId) → AreApart es → AllApart (map (timed_at times) es)
timed_apart times [] h = tt
timed_apart times (e ∷ es) h = (timed_every times e es h.0, timed_apart times es h.1)

with_apart : (xs : List Timed) (x : Timed) → Every (TimedApart x) xs → AllApart xs → AllApart (with_timed xs x)
with_apart [] x h g = (tt, tt)
with_apart (y ∷ ys) x h g = by_test (int_lt x.time y.time) (with_apart ys x h.1 g.1) where
  by_test : (t : Bool) → AllApart (with_timed ys x) → AllApart (if t then x ∷ y ∷ ys else y ∷ with_timed ys x)
  by_test true rest = (h, g)
  by_test false rest = (every_with (TimedApart y) ys x (λ e. h.0 (sym e)) g.0, rest)

-- each event of the first list is apart from each event of the second
abbrev AreAcross : List Timed → List Timed → Type 0
AreAcross done [] = Unit {0}
AreAcross done (x ∷ xs) = Every (TimedApart x) done × AreAcross done xs

across_with : (done xs : List Timed) (x : Timed) → Every (TimedApart x) xs → AreAcross done xs → AreAcross (with_timed done x) xs
across_with done [] x h g = tt
across_with done (y ∷ ys) x h g = (every_with (TimedApart y) done x (λ e. h.0 (sym e)) g.0, across_with done ys x h.1 g.1)

fold_apart : (done xs : List Timed) → AllApart done → AllApart xs → AreAcross done xs → AllApart (fold with_timed done xs)
fold_apart done [] h g across = h
fold_apart done (x ∷ xs) h g across =
    fold_apart (with_timed done x) xs (with_apart done x across.0 h) g.1 (across_with done xs x g.0 across.1)

across_none : (xs : List Timed) → AreAcross [] xs
across_none [] = tt
across_none (x ∷ xs) = (tt, across_none xs)

pub ordered_apart : (from to : EventId) (n : ℕ) (times : List ℤ) → AllApart (ordered_events from to n times)
ordered_apart from to n times =
    fold_apart [] (map (timed_at times) (drawn_events from to n)) tt (timed_apart times (drawn_events from to n) (drawn_apart from to n))
    (across_none (map (timed_at times) (drawn_events from to n)))

-- ---- an event that is there

abbrev pub Has : EventId → List Timed → Type 0
Has e [] = ⊥
Has e (x ∷ xs) = (x.event.0 ≡ e.0) ⊎ Has e xs

has_with : (e : EventId) (xs : List Timed) (x : Timed) → (x.event.0 ≡ e.0) ⊎ Has e xs → Has e (with_timed xs x)
has_with e [] x h = h
has_with e (y ∷ ys) x h = by_test (int_lt x.time y.time) h (λ k. has_with e ys x k) where
  by_test : (t : Bool) → (x.event.0 ≡ e.0) ⊎ ((y.event.0 ≡ e.0) ⊎ Has e ys) → ((x.event.0 ≡ e.0) ⊎ Has e ys → Has e (with_timed ys x))
      → Has e (if t then x ∷ y ∷ ys else y ∷ with_timed ys x)
  by_test true k rest = k
  by_test false (inl is) rest = inr (rest (inl is))
  by_test false (inr (inl is)) rest = inl is
  by_test false (inr (inr there)) rest = inr (rest (inr there))

pub has_fold : (e : EventId) (done xs : List Timed) → Has e done ⊎ Has e xs → Has e (fold with_timed done xs)
has_fold e done [] (inl h) = h
has_fold e done [] (inr h) = absurd h
has_fold e done (x ∷ xs) (inl h) = has_fold e (with_timed done x) xs (inl (has_with e done x (inr h)))
has_fold e done (x ∷ xs) (inr (inl is)) = has_fold e (with_timed done x) xs (inl (has_with e done x (inl is)))
has_fold e done (x ∷ xs) (inr (inr h)) = has_fold e (with_timed done x) xs (inr h)

pub has_from : (from to : EventId) (n : ℕ) (times : List ℤ) → Has from (ordered_events from to n times)
unfolding drawn_events
has_from from to n times = has_fold from [] (map (timed_at times) (drawn_events from to n)) (inr (inl refl))

has_second : (from to : EventId) (t : Bool) (rest : List EventId) (times : List ℤ) → (to.0 == from.0) ≡ t
    → Has to (map (timed_at times) (take MOST_DRAWN (from ∷ ((if t then [] else to ∷ []) ++ rest))))
has_second from to true rest times e = inl (sym (eqb-true to.0 from.0 e))
has_second from to false rest times e = inr (inl refl)

pub has_to : (from to : EventId) (n : ℕ) (times : List ℤ) → Has to (ordered_events from to n times)
unfolding drawn_events
has_to from to n times =
    has_fold to [] (map (timed_at times) (drawn_events from to n)) (inr (has_second from to (to.0 == from.0) (filtered (is_other from to) 0 n) times refl))

-- ---- numbers

pub numbered_after : (last : Timed) (before : DrawnEvent) (xs : List Timed) → AreNumbered (before.number + 1) (stands_after last before xs)
numbered_after last before [] = tt
numbered_after last before (x ∷ xs) = (refl, numbered_after x (next_stand last before x) xs)

pub numbered_stands : (xs : List Timed) → AreNumbered 0 (stands_of xs)
numbered_stands [] = tt
numbered_stands (x ∷ xs) = (refl, numbered_after x (first_stand x) xs)

number_after : (e : EventId) (last : Timed) (before : DrawnEvent) (xs : List Timed) → Has e xs
    → number_in (stands_after last before xs) e < (before.number + 1) + length xs
number_after e last before [] h = absurd h
number_after e last before (x ∷ xs) h = by_test (x.event.0 == e.0) refl (λ k. number_after e x (next_stand last before x) xs k) where
  by_test : (t : Bool) → (x.event.0 == e.0) ≡ t
      → (Has e xs → number_in (stands_after x (next_stand last before x) xs) e < ((before.number + 1) + 1) + length xs)
      → (if t then before.number + 1 else number_in (stands_after x (next_stand last before x) xs) e) < (before.number + 1) + length (x ∷ xs)
  by_test true is rest = omega arith
  by_test false is rest =
      let there : Has e xs = elim h [ inl here ↦ absurd (eqb-false x.event.0 e.0 is here) | inr later ↦ later ] in
      let less = rest there in omega arith

pub number_within : (e : EventId) (xs : List Timed) → Has e xs → number_in (stands_of xs) e < length xs
number_within e [] h = absurd h
number_within e (x ∷ xs) h = by_test (x.event.0 == e.0) refl where
  by_test : (t : Bool) → (x.event.0 == e.0) ≡ t → (if t then 0 else number_in (stands_after x (first_stand x) xs) e) < length (x ∷ xs)
  by_test true is = omega arith
  by_test false is =
      let there : Has e xs = elim h [ inl here ↦ absurd (eqb-false x.event.0 e.0 is here) | inr later ↦ later ] in
      let less = number_after e x (first_stand x) xs there in omega arith
