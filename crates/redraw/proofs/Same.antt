-- Narrowing all times first does not change where the drawn events stand.
use Rattle.std.proofs.Common.{◌≡◌, ◌+◌, ◌<◌, inl, inr, ℕ, ℤ, pos, ◌+ℤ◌, ◌-ℤ◌, ◌≤ℤ◌, ◌<ℤ◌, Bool, true, false, if◌then◌else◌, int_le, int_lt, List, [], ◌∷◌, length, map, fold, ◌∙◌, refl, sym, ap, arith}
use Rattle.std.proofs.lemmas.Int.{ints}
use Rattle.itv_base.specs.declared.names.EventId.{EventId}
use Rattle.itv_base.proofs.Bools.{same_test}
use Rattle.itv_base.proofs.Integers.{test_from_lt}
use Rattle.event_graph.specs.Times.{separation, time_of}
use Rattle.falling.proofs.Near.{IsKept, KeepsNear, below_or_not, keeps_in}
use Rattle.drawn_networks.specs.declared.row.Row.{Row}
use Rattle.redraw.specs.declared.drawn_event.DrawnEvent.{DrawnEvent}
use Rattle.redraw.specs.declared.drawn_event.Timed.{Timed}
use Rattle.redraw.specs.Narrowing.{lesser, narrowed, widest_gap}
use Rattle.redraw.specs.Order.{drawn_events, in_order, ordered_events, timed_at, with_timed}
use Rattle.redraw.specs.Drawing.{next_stand, row_stands, stands_after, stands_of}
use Rattle.redraw.specs.Step.{AreInOrder, Follow}
use Rattle.redraw.proofs.Narrow.{keeps_narrowed}
use Rattle.redraw.proofs.Ordered.{Every, every_drawn, every_in_order, every_with, sorted_in_order}

-- an event that has its time
abbrev IsAt : ℕ → List ℤ → Timed → Type 0
IsAt n times x = (x.event.0 < n) × (x ≡ timed_at times x.event)

-- the same event at other times
abbrev moved_to : List ℤ → Timed → Timed
moved_to others x = timed_at others x.event

-- which of two events comes later does not change
later_from : (width : ℕ) (a b a' b' : ℤ) → 0 < width → IsKept width (b -ℤ a) (b' -ℤ a') → a <ℤ b → a' <ℤ b'
later_from width a b a' b' some kept h = elim (below_or_not (pos width) (b -ℤ a)) [
  | inl wide ↦ let new : pos width ≤ℤ (b' -ℤ a') = kept.wide wide in omega (arith, ints)
  | inr near ↦ let new : (b' -ℤ a') ≡ (b -ℤ a) = kept.near (omega (arith, ints)) near in omega (arith, ints)
]

later_back : (width : ℕ) (a b a' b' : ℤ) → IsKept width (a -ℤ b) (a' -ℤ b') → a' <ℤ b' → a <ℤ b
later_back width a b a' b' back h = elim (below_or_not a b) [
  | inl less ↦ less
  | inr up ↦ elim (below_or_not (pos width) (a -ℤ b)) [
    | inl wide ↦ let new : pos width ≤ℤ (a' -ℤ b') = back.wide wide in absurd (omega (arith, ints))
    | inr near ↦ let new : (a' -ℤ b') ≡ (a -ℤ b) = back.near (omega (arith, ints)) near in absurd (omega (arith, ints))
  ]
]

later_kept : (a b a' b' : ℤ) → IsKept widest_gap (b -ℤ a) (b' -ℤ a') → IsKept widest_gap (a -ℤ b) (a' -ℤ b') → int_lt a' b' ≡ int_lt a b
later_kept a b a' b' kept back =
    same_test (int_lt a' b') (int_lt a b) (λ e. test_from_lt a b (later_back widest_gap a b a' b' back (lt_of a' b' e)))
    (λ e. test_from_lt a' b' (later_from widest_gap a b a' b' (omega arith) kept (lt_of a b e))) where
      lt_of : (x y : ℤ) → int_lt x y ≡ true → x <ℤ y
      lt_of x y e = omega (arith, ints)

lesser_kept : (width : ℕ) (old new : ℤ) → pos 0 ≤ℤ old → IsKept width old new → lesser new (pos width) ≡ lesser old (pos width)
lesser_kept width old new low kept = by_test (int_le old (pos width)) refl where
  at_least : (t : Bool) → int_le new (pos width) ≡ t → pos width ≤ℤ new → (if t then new else pos width) ≡ pos width
  at_least true e up = omega (arith, ints)
  at_least false e up = refl

  by_test : (t : Bool) → int_le old (pos width) ≡ t → lesser new (pos width) ≡ (if t then old else pos width)
  by_test true e =
      let near : old ≤ℤ pos width = omega (arith, ints) in
      let same : new ≡ old = kept.near low near in
      rw (same, e) refl
  by_test false e = at_least (int_le new (pos width)) refl (kept.wide (omega (arith, ints)))

lesser_same : (old new : ℤ) → pos 0 ≤ℤ old → IsKept widest_gap old new → lesser new (pos widest_gap) ≡ lesser old (pos widest_gap)
lesser_same old new low kept = lesser_kept widest_gap old new low kept

-- ---- the order

later_same : (n : ℕ) (times others : List ℤ) (x y : Timed) → KeepsNear widest_gap n times others → IsAt n times x → IsAt n times y
    → int_lt (moved_to others x).time (moved_to others y).time ≡ int_lt x.time y.time
later_same n times others x y keeps at_x at_y =
    later_kept (time_of times x.event) (time_of times y.event) (time_of others x.event) (time_of others y.event)
    (keeps x.event y.event at_x.0 at_y.0) (keeps y.event x.event at_y.0 at_x.0)
    ∙ sym (ap (λ (z : Timed). int_lt z.time y.time) at_x.1 ∙ ap (λ (z : Timed). int_lt (time_of times x.event) z.time) at_y.1)

with_same : (n : ℕ) (times others : List ℤ) (xs : List Timed) (x : Timed) → KeepsNear widest_gap n times others → IsAt n times x → Every (IsAt n times) xs
    → with_timed (map (moved_to others) xs) (moved_to others x) ≡ map (moved_to others) (with_timed xs x)
with_same n times others [] x keeps at_x h = refl
with_same n times others (y ∷ ys) x keeps at_x h =
    rw (later_same n times others x y keeps at_x h.0) (by_test (int_lt x.time y.time) (with_same n times others ys x keeps at_x h.1)) where
      by_test : (t : Bool) → with_timed (map (moved_to others) ys) (moved_to others x) ≡ map (moved_to others) (with_timed ys x)
          → (if t then moved_to others x ∷ moved_to others y ∷ map (moved_to others) ys else moved_to others y ∷ with_timed (map (moved_to others) ys) (moved_to others x))
          ≡ map (moved_to others) (if t then x ∷ y ∷ ys else y ∷ with_timed ys x)
      by_test true rest = refl
      by_test false rest = ap (λ l. moved_to others y ∷ l) rest

fold_same : (n : ℕ) (times others : List ℤ) (done xs : List Timed) → KeepsNear widest_gap n times others → Every (IsAt n times) done → Every (IsAt n times) xs
    → fold with_timed (map (moved_to others) done) (map (moved_to others) xs) ≡ map (moved_to others) (fold with_timed done xs)
fold_same n times others done [] keeps h g = refl
fold_same n times others done (x ∷ xs) keeps h g =
    ap (λ l. fold with_timed l (map (moved_to others) xs)) (with_same n times others done x keeps g.0 h)
    ∙ fold_same n times others (with_timed done x) xs keeps (every_with (IsAt n times) done x g.0 h) g.1

-- ---- where they stand

separation_at : (a b : Timed) (times : List ℤ) → a ≡ timed_at times a.event → b ≡ timed_at times b.event → (b.time -ℤ a.time) ≡ separation times a.event b.event
separation_at a b times at_a at_b =
    ap (λ (z : Timed). z.time -ℤ a.time) at_b ∙ ap (λ (z : Timed). time_of times b.event -ℤ z.time) at_a

pub up_of : (a b : ℤ) → a ≤ℤ b → pos 0 ≤ℤ (b -ℤ a)
up_of a b h = omega (arith, ints)

gap_same : (n : ℕ) (times others : List ℤ) (last x : Timed) → KeepsNear widest_gap n times others → IsAt n times last → IsAt n times x → last.time ≤ℤ x.time
    → lesser ((moved_to others x).time -ℤ (moved_to others last).time) (pos widest_gap) ≡ lesser (x.time -ℤ last.time) (pos widest_gap)
gap_same n times others last x keeps at_last at_x le =
    lesser_same (x.time -ℤ last.time) ((moved_to others x).time -ℤ (moved_to others last).time) (up_of last.time x.time le)
    (rw (separation_at last x times at_last.1 at_x.1) (keeps last.event x.event at_last.0 at_x.0))

abbrev next_by : Timed → DrawnEvent → Bool → ℤ → DrawnEvent
next_by x before b g = record { event = x.event; number = before.number + 1; place = if b then before.place + 1 else before.place; time = before.time +ℤ g }

next_same : (n : ℕ) (times others : List ℤ) (last : Timed) (before : DrawnEvent) (x : Timed) → KeepsNear widest_gap n times others → IsAt n times last → IsAt n times x
    → last.time ≤ℤ x.time → next_stand (moved_to others last) before (moved_to others x) ≡ next_stand last before x
next_same n times others last before x keeps at_last at_x le =
    ap (λ b. next_by x before b (lesser ((moved_to others x).time -ℤ (moved_to others last).time) (pos widest_gap))) (later_same n times others last x keeps at_last at_x)
    ∙ ap (λ g. next_by x before (int_lt last.time x.time) g) (gap_same n times others last x keeps at_last at_x le)

after_same : (n : ℕ) (times others : List ℤ) (last : Timed) (before : DrawnEvent) (xs : List Timed) → KeepsNear widest_gap n times others → IsAt n times last → Every (IsAt n times) xs
    → Follow last xs → stands_after (moved_to others last) before (map (moved_to others) xs) ≡ stands_after last before xs
after_same n times others last before [] keeps at_last h follow = refl
after_same n times others last before (x ∷ xs) keeps at_last h follow =
    ap (λ s. s ∷ stands_after (moved_to others x) s (map (moved_to others) xs)) (next_same n times others last before x keeps at_last h.0 follow.0)
    ∙ ap (λ l. next_stand last before x ∷ l) (after_same n times others x (next_stand last before x) xs keeps h.0 h.1 follow.1)

stands_same : (n : ℕ) (times others : List ℤ) (xs : List Timed) → KeepsNear widest_gap n times others → Every (IsAt n times) xs → AreInOrder xs
    → stands_of (map (moved_to others) xs) ≡ stands_of xs
stands_same n times others [] keeps h order = refl
stands_same n times others (x ∷ xs) keeps h order =
    ap (λ l. record { event = x.event; number = 0; place = 1; time = pos 0 } ∷ l) (after_same n times others x (record { event = x.event; number = 0; place = 1; time = pos 0 }) xs keeps h.0 h.1 order)

moved_all : (times others : List ℤ) (es : List EventId) → map (timed_at others) es ≡ map (moved_to others) (map (timed_at times) es)
moved_all times others [] = refl
moved_all times others (e ∷ es) = ap (λ l. timed_at others e ∷ l) (moved_all times others es)

every_at : (n : ℕ) (times : List ℤ) (es : List EventId) → Every (λ (e : EventId). e.0 < n) es → Every (IsAt n times) (map (timed_at times) es)
every_at n times [] h = tt
every_at n times (e ∷ es) h = ((h.0, refl), every_at n times es h.1)

pair_same : (n : ℕ) (from to : EventId) (times others : List ℤ) → from.0 < n → to.0 < n → KeepsNear widest_gap n times others
    → stands_of (ordered_events from to n others) ≡ stands_of (ordered_events from to n times)
pair_same n from to times others in_from in_to keeps =
    let es : List EventId = drawn_events from to n in
    let at = every_at n times (drawn_events from to n) (every_drawn from to n in_from in_to) in
    ap (λ l. stands_of (in_order l)) (moved_all times others (drawn_events from to n))
    ∙ ap stands_of (fold_same n times others [] (map (timed_at times) (drawn_events from to n)) keeps tt at)
    ∙ stands_same n times others (in_order (map (timed_at times) (drawn_events from to n))) keeps
    (every_in_order (IsAt n times) (map (timed_at times) (drawn_events from to n)) at) (sorted_in_order (map (timed_at times) (drawn_events from to n)))

-- other times that keep near separations draw the same
pub row_same : (n : ℕ) (row : Row) (times others : List ℤ) → row.from.0 < n → row.to.0 < n → KeepsNear widest_gap n times others → row_stands n row others ≡ row_stands n row times
row_same n row times others in_from in_to keeps = pair_same n row.from row.to times others in_from in_to keeps

pub narrowed_same : (n : ℕ) (row : Row) (times : List ℤ) → length times ≡ n → row.from.0 < n → row.to.0 < n → row_stands n row (narrowed widest_gap times) ≡ row_stands n row times
narrowed_same n row times count in_from in_to =
    row_same n row times (narrowed widest_gap times) in_from in_to (keeps_in widest_gap (length times) n times (narrowed widest_gap times) count (keeps_narrowed widest_gap times))
