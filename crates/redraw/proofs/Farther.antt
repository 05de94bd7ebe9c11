-- Drawn times keep near separations too.
use Rattle.std.proofs.Common.{◌≡◌, ◌==◌, ◌⊎◌, inl, inr, ℕ, ℤ, pos, ◌+ℤ◌, ◌-ℤ◌, ◌≤ℤ◌, ◌<ℤ◌, Bool, true, false, if◌then◌else◌, int_le, List, [], ◌∷◌, length, map, slice_get, Some, unwrap_or, ◌∙◌, refl, sym, ap, subst, arith, eqb-true}
use Rattle.std.proofs.lemmas.Bool.{eqb-false}
use Rattle.std.proofs.lemmas.Int.{ints}
use Rattle.itv_base.specs.declared.names.EventId.{EventId}
use Rattle.event_graph.specs.Times.{separation, time_of}
use Rattle.falling.proofs.Near.{IsKept, below_or_not}
use Rattle.drawn_networks.specs.declared.row.Row.{Row}
use Rattle.drawn_networks.specs.Drawn.{Drawn, IsRowOf}
use Rattle.redraw.specs.declared.drawn_event.DrawnEvent.{DrawnEvent}
use Rattle.redraw.specs.declared.drawn_event.Timed.{Timed}
use Rattle.redraw.specs.Narrowing.{lesser, narrowed, widest_gap}
use Rattle.redraw.specs.Order.{drawn_events, ordered_events, timed_at}
use Rattle.redraw.specs.Drawing.{first_stand, next_stand, nowhere, row_stands, stands_after, stands_drawn, stands_of, time_in}
use Rattle.redraw.specs.Laws.{DrawnStayAbove, DrawnStayBelow}
use Rattle.redraw.specs.Step.{AreInOrder, Follow}
use Rattle.redraw.proofs.Distinct.{Has, has_from, has_to}
use Rattle.redraw.proofs.Ordered.{Every, every_in_order, sorted_in_order}
use Rattle.redraw.proofs.Past.{stays_above, stays_below}
use Rattle.redraw.proofs.Rows.{at_row}
use Rattle.redraw.proofs.Same.{up_of}

-- the time of an event in a list
abbrev timed_in : List Timed → EventId → ℤ
timed_in [] e = pos 0
timed_in (x ∷ xs) e = if x.event.0 == e.0 then x.time else timed_in xs e

-- a distance that is drawn
record IsDrawnBy (width : ℕ) (old new : ℤ) : Type 0 where
  old_least : pos 0 ≤ℤ old
  new_least : pos 0 ≤ℤ new
  near : old ≤ℤ pos width → new ≡ old
  wide : pos width <ℤ old → pos width ≤ℤ new

drawn_as : (width : ℕ) (old : ℤ) → pos 0 ≤ℤ old → IsDrawnBy width old (lesser old (pos width))
drawn_as width old low = by_test (int_le old (pos width)) refl where
  by_test : (t : Bool) → int_le old (pos width) ≡ t → IsDrawnBy width old (if t then old else pos width)
  by_test true e = record { old_least = low; new_least = low; near = λ m. refl; wide = λ m. omega (arith, ints) }
  by_test false e = record { old_least = low; new_least = omega (arith, ints); near = λ m. absurd (omega (arith, ints)); wide = λ m. omega (arith, ints) }

both_drawn : (width : ℕ) (a b c d : ℤ) → IsDrawnBy width a c → IsDrawnBy width b d → IsDrawnBy width (a +ℤ b) (c +ℤ d)
both_drawn width a b c d first second =
    let a0 : pos 0 ≤ℤ a = first.old_least in
    let c0 : pos 0 ≤ℤ c = first.new_least in
    let b0 : pos 0 ≤ℤ b = second.old_least in
    let d0 : pos 0 ≤ℤ d = second.new_least in
    record {
      old_least = omega (arith, ints);
      new_least = omega (arith, ints);
      near = λ m.
          let one : c ≡ a = first.near (omega (arith, ints)) in
          let two : d ≡ b = second.near (omega (arith, ints)) in
          omega (arith, ints);
      wide = λ m. elim (below_or_not (pos width) a) [
        | inl far ↦ let one : pos width ≤ℤ c = first.wide far in omega (arith, ints)
        | inr close ↦ elim (below_or_not (pos width) b) [
          | inl far ↦ let two : pos width ≤ℤ d = second.wide far in omega (arith, ints)
          | inr closer ↦
              let one : c ≡ a = first.near close in
              let two : d ≡ b = second.near closer in
              omega (arith, ints)
        ]
      ];
    }

same_drawn : (width : ℕ) (a b c d : ℤ) → a ≡ b → c ≡ d → IsDrawnBy width a c → IsDrawnBy width b d
same_drawn width a b c d e f h = subst (λ z. IsDrawnBy width b z) f (subst (λ z. IsDrawnBy width z c) e h)

none_drawn : (width : ℕ) → IsDrawnBy width (pos 0) (pos 0)
none_drawn width = record { old_least = omega (arith, ints); new_least = omega (arith, ints); near = λ m. refl; wide = λ m. omega (arith, ints) }

abbrev IsDrawnAs : ℤ → ℤ → Type 0
IsDrawnAs old new = IsDrawnBy widest_gap old new

next_drawn : (last : Timed) (before : DrawnEvent) (x : Timed) → last.time ≤ℤ x.time → IsDrawnAs (x.time -ℤ last.time) ((next_stand last before x).time -ℤ before.time)
next_drawn last before x le =
    same_drawn widest_gap (x.time -ℤ last.time) (x.time -ℤ last.time) (lesser (x.time -ℤ last.time) (pos widest_gap)) _ refl
    (behind before.time (lesser (x.time -ℤ last.time) (pos widest_gap))) (drawn_as widest_gap (x.time -ℤ last.time) (up_of last.time x.time le)) where
      behind : (t g : ℤ) → g ≡ ((t +ℤ g) -ℤ t)
      behind t g = omega (arith, ints)

-- the distance from an event to a later one is drawn
later_drawn : (e : EventId) (last : Timed) (before : DrawnEvent) (xs : List Timed) → Follow last xs → Has e xs
    → IsDrawnAs (timed_in xs e -ℤ last.time) (time_in (stands_after last before xs) e -ℤ before.time)
later_drawn e last before [] follow h = absurd h
later_drawn e last before (x ∷ xs) follow h =
    by_test (x.event.0 == e.0) refl (next_drawn last before x follow.0) (λ there. later_drawn e x (next_stand last before x) xs follow.1 there) where
      chained : (a b c : ℤ) → ((b -ℤ a) +ℤ (c -ℤ b)) ≡ (c -ℤ a)
      chained a b c = omega (arith, ints)

      by_test : (t : Bool) → (x.event.0 == e.0) ≡ t → IsDrawnAs (x.time -ℤ last.time) ((next_stand last before x).time -ℤ before.time)
          → (Has e xs → IsDrawnAs (timed_in xs e -ℤ x.time) (time_in (stands_after x (next_stand last before x) xs) e -ℤ (next_stand last before x).time))
          → IsDrawnAs ((if t then x.time else timed_in xs e) -ℤ last.time)
          ((if t then (next_stand last before x).time else time_in (stands_after x (next_stand last before x) xs) e) -ℤ before.time)
      by_test true is next rest = next
      by_test false is next rest =
          let there : Has e xs = elim h [ inl here ↦ absurd (eqb-false x.event.0 e.0 is here) | inr later ↦ later ] in
          same_drawn widest_gap _ _ _ _ (chained last.time x.time (timed_in xs e))
          (chained before.time (next_stand last before x).time (time_in (stands_after x (next_stand last before x) xs) e))
          (both_drawn widest_gap _ _ _ _ next (rest there))

-- either event may come first
abbrev AreDrawn : ℤ → ℤ → ℤ → ℤ → Type 0
AreDrawn a b c d = IsDrawnAs (b -ℤ a) (d -ℤ c) ⊎ IsDrawnAs (a -ℤ b) (c -ℤ d)

none_between : (a b : ℤ) → IsDrawnAs (a -ℤ a) (b -ℤ b)
none_between a b = same_drawn widest_gap (pos 0) (a -ℤ a) (pos 0) (b -ℤ b) (zero_of a) (zero_of b) (none_drawn widest_gap) where
  zero_of : (z : ℤ) → pos 0 ≡ (z -ℤ z)
  zero_of z = omega (arith, ints)

pair_at : (a b : EventId) (x : Timed) (s : DrawnEvent) (xs : List Timed) → s.event ≡ x.event → Follow x xs → (x.event.0 ≡ a.0) ⊎ Has a xs → (x.event.0 ≡ b.0) ⊎ Has b xs
    → (Has a xs → Has b xs → AreDrawn (timed_in xs a) (timed_in xs b) (time_in (stands_after x s xs) a) (time_in (stands_after x s xs) b))
    → AreDrawn (timed_in (x ∷ xs) a) (timed_in (x ∷ xs) b) (time_in (s ∷ stands_after x s xs) a) (time_in (s ∷ stands_after x s xs) b)
pair_at a b x s xs same follow in_a in_b both =
    let at_a : (x.event.0 == a.0) ≡ (s.event.0 == a.0) = ap (λ (e : EventId). e.0 == a.0) (sym same) in
    let at_b : (x.event.0 == b.0) ≡ (s.event.0 == b.0) = ap (λ (e : EventId). e.0 == b.0) (sym same) in
    subst (λ v. AreDrawn (timed_in (x ∷ xs) a) (timed_in (x ∷ xs) b) (if v then s.time else time_in (stands_after x s xs) a) (time_in (s ∷ stands_after x s xs) b)) at_a
    (subst (λ v. AreDrawn (timed_in (x ∷ xs) a) (timed_in (x ∷ xs) b) (if (x.event.0 == a.0) then s.time else time_in (stands_after x s xs) a) (if v then s.time else time_in (stands_after x s xs) b)) at_b
    (by_tests (x.event.0 == a.0) (x.event.0 == b.0) refl refl)) where
      behind : (e : EventId) → (x.event.0 == e.0) ≡ false → (x.event.0 ≡ e.0) ⊎ Has e xs → Has e xs
      behind e is (inl here) = absurd (eqb-false x.event.0 e.0 is here)
      behind e is (inr there) = there

      by_tests : (t u : Bool) → (x.event.0 == a.0) ≡ t → (x.event.0 == b.0) ≡ u
          → AreDrawn (if t then x.time else timed_in xs a) (if u then x.time else timed_in xs b)
          (if t then s.time else time_in (stands_after x s xs) a) (if u then s.time else time_in (stands_after x s xs) b)
      by_tests true true e f = inl (none_between x.time s.time)
      by_tests true false e f = inl (later_drawn b x s xs follow (behind b f in_b))
      by_tests false true e f = inr (later_drawn a x s xs follow (behind a e in_a))
      by_tests false false e f = both (behind a e in_a) (behind b f in_b)

pair_after : (a b : EventId) (last : Timed) (before : DrawnEvent) (xs : List Timed) → Follow last xs → Has a xs → Has b xs
    → AreDrawn (timed_in xs a) (timed_in xs b) (time_in (stands_after last before xs) a) (time_in (stands_after last before xs) b)
pair_after a b last before [] follow in_a in_b = absurd in_a
pair_after a b last before (x ∷ xs) follow in_a in_b =
    pair_at a b x (next_stand last before x) xs refl follow.1 in_a in_b (λ p q. pair_after a b x (next_stand last before x) xs follow.1 p q)

pair_drawn : (a b : EventId) (xs : List Timed) → AreInOrder xs → Has a xs → Has b xs → AreDrawn (timed_in xs a) (timed_in xs b) (time_in (stands_of xs) a) (time_in (stands_of xs) b)
pair_drawn a b [] order in_a in_b = absurd in_a
pair_drawn a b (x ∷ xs) order in_a in_b =
    pair_at a b x (first_stand x) xs refl order in_a in_b (λ p q. pair_after a b x (first_stand x) xs order p q)

-- the separation is kept both ways

kept_from : (width : ℕ) (old new : ℤ) → IsDrawnBy width old new → IsKept width old new
kept_from width old new h = record { near = λ low high. h.near high; wide = λ far. h.wide far }

kept_back : (width : ℕ) (a b c d : ℤ) → IsDrawnBy width (b -ℤ a) (d -ℤ c) → IsKept width (a -ℤ b) (c -ℤ d)
kept_back width a b c d h =
    let least : pos 0 ≤ℤ (b -ℤ a) = h.old_least in
    record {
      near = λ low high. let same : (d -ℤ c) ≡ (b -ℤ a) = h.near (omega (arith, ints)) in omega (arith, ints);
      wide = λ far. absurd (omega (arith, ints));
    }

kept_both : (a b c d : ℤ) → AreDrawn a b c d → IsKept widest_gap (b -ℤ a) (d -ℤ c) × IsKept widest_gap (a -ℤ b) (c -ℤ d)
kept_both a b c d (inl h) = (kept_from widest_gap (b -ℤ a) (d -ℤ c) h, kept_back widest_gap a b c d h)
kept_both a b c d (inr h) = (kept_back widest_gap b a d c h, kept_from widest_gap (a -ℤ b) (c -ℤ d) h)

-- ---- of a row

abbrev IsAtTime : List ℤ → Timed → Type 0
IsAtTime times x = x.time ≡ time_of times x.event

time_found : (times : List ℤ) (e : EventId) (xs : List Timed) → Every (IsAtTime times) xs → Has e xs → timed_in xs e ≡ time_of times e
time_found times e [] at h = absurd h
time_found times e (x ∷ xs) at h = by_test (x.event.0 == e.0) refl (λ there. time_found times e xs at.1 there) where
  by_test : (t : Bool) → (x.event.0 == e.0) ≡ t → (Has e xs → timed_in xs e ≡ time_of times e) → (if t then x.time else timed_in xs e) ≡ time_of times e
  by_test true is rest = at.0 ∙ ap (λ n. time_of times (record { 0 = n })) (eqb-true x.event.0 e.0 is)
  by_test false is rest = rest (elim h [ inl here ↦ absurd (eqb-false x.event.0 e.0 is here) | inr later ↦ later ])

each_at : (times : List ℤ) (es : List EventId) → Every (IsAtTime times) (map (timed_at times) es)
each_at times [] = tt
each_at times (e ∷ es) = (refl, each_at times es)

both_kept : (from to a b : EventId) (n : ℕ) (times : List ℤ) → Has a (ordered_events from to n times) → Has b (ordered_events from to n times)
    → IsKept widest_gap (separation times a b) (time_in (stands_of (ordered_events from to n times)) b -ℤ time_in (stands_of (ordered_events from to n times)) a)
    × IsKept widest_gap (separation times b a) (time_in (stands_of (ordered_events from to n times)) a -ℤ time_in (stands_of (ordered_events from to n times)) b)
both_kept from to a b n times in_a in_b =
    let at = every_in_order (IsAtTime times) (map (timed_at times) (drawn_events from to n)) (each_at times (drawn_events from to n)) in
    let at_a : timed_in (ordered_events from to n times) a ≡ time_of times a = time_found times a (ordered_events from to n times) at in_a in
    let at_b : timed_in (ordered_events from to n times) b ≡ time_of times b = time_found times b (ordered_events from to n times) at in_b in
    kept_both (time_of times a) (time_of times b) (time_in (stands_of (ordered_events from to n times)) a) (time_in (stands_of (ordered_events from to n times)) b)
    (subst (λ z. AreDrawn (time_of times a) z (time_in (stands_of (ordered_events from to n times)) a) (time_in (stands_of (ordered_events from to n times)) b)) at_b
    (subst (λ z. AreDrawn z (timed_in (ordered_events from to n times) b) (time_in (stands_of (ordered_events from to n times)) a) (time_in (stands_of (ordered_events from to n times)) b)) at_a
    (pair_drawn a b (ordered_events from to n times) (sorted_in_order (map (timed_at times) (drawn_events from to n))) in_a in_b)))

-- the drawing keeps the separation of any two drawn events
pub any_kept : (from to a b : EventId) (n : ℕ) (times : List ℤ) → Has a (ordered_events from to n times) → Has b (ordered_events from to n times)
    → IsKept widest_gap (separation times a b) (time_in (stands_of (ordered_events from to n times)) b -ℤ time_in (stands_of (ordered_events from to n times)) a)
any_kept from to a b n times in_a in_b = (both_kept from to a b n times in_a in_b).0

row_kept : (from to : EventId) (n : ℕ) (times : List ℤ)
    → IsKept widest_gap (separation times from to) (time_in (stands_of (ordered_events from to n times)) to -ℤ time_in (stands_of (ordered_events from to n times)) from)
    × IsKept widest_gap (separation times to from) (time_in (stands_of (ordered_events from to n times)) from -ℤ time_in (stands_of (ordered_events from to n times)) to)
row_kept from to n times = both_kept from to from to n times (has_from from to n times) (has_to from to n times)

pub stands_same : (drawn : Drawn) (row : ℕ) (asked : Row) (times : List ℤ) → slice_get drawn.rows row ≡ Some asked → length times ≡ drawn.net.events → IsRowOf drawn.net asked
    → stands_drawn drawn row times ≡ stands_of (ordered_events asked.from asked.to (length times) times)
stands_same drawn row asked times there count within =
    ap (λ (r : Row). row_stands drawn.net.events r (narrowed widest_gap times)) (ap (λ o. unwrap_or o nowhere) there)
    ∙ at_row drawn asked times count within.0 within.1

pub drawn_stay_above : DrawnStayAbove
drawn_stay_above drawn row asked times high there within count inner h =
    let kept = row_kept asked.from asked.to (length times) times in
    rw (stands_same drawn row asked times there count within)
    (stays_above widest_gap (time_of times asked.from) (time_of times asked.to) (time_in (stands_of (ordered_events asked.from asked.to (length times) times)) asked.from) (time_in (stands_of (ordered_events asked.from asked.to (length times) times)) asked.to) high inner.0 inner.1 kept.0 kept.1 h)

pub drawn_stay_below : DrawnStayBelow
drawn_stay_below drawn row asked times low there within count inner h =
    let kept = row_kept asked.from asked.to (length times) times in
    rw (stands_same drawn row asked times there count within)
    (stays_below widest_gap (time_of times asked.from) (time_of times asked.to) (time_in (stands_of (ordered_events asked.from asked.to (length times) times)) asked.from) (time_in (stands_of (ordered_events asked.from asked.to (length times) times)) asked.to) low inner.0 inner.1 kept.0 kept.1 h)
