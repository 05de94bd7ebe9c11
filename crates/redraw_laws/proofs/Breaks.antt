-- The times of a drawing break what it demands.
use Rattle.std.proofs.Common.{◌≡◌, ◌+◌, ◌<◌, ◌==◌, ◌⊎◌, inl, inr, ℕ, suc, ℤ, pos, ◌+ℤ◌, ◌-ℤ◌, ◌<ℤ◌, ◌≤ℤ◌, Bool, true, false, if◌then◌else◌, List, [], ◌∷◌, length, get_or, Option, Some, None, IsSomeAnd, IfSome, ◌∙◌, refl, sym, ap, subst, arith, eq-eqb}
use Rattle.std.proofs.lemmas.Int.{ints}
use Rattle.std.proofs.lemmas.List.{get_or-map, length-map}
use Rattle.itv_base.specs.declared.names.EventId.{EventId}
use Rattle.event_graph.specs.Times.{separation, shifted, time_of}
use Rattle.redraw.specs.declared.drawn_event.DrawnEvent.{DrawnEvent}
use Rattle.redraw.specs.declared.drawn_event.Timed.{Timed}
use Rattle.redraw.specs.Drawing.{drawn_times, first_stand, next_stand, number_in, stands_after, stands_drawn, stands_of, time_in}
use Rattle.redraw.specs.Laws.{IsInnerHigh, IsInnerLow}
use Rattle.redraw.specs.Order.{event, ordered_events}
use Rattle.redraw.proofs.Distinct.{Has, has_from, has_to, numbered_stands}
use Rattle.redraw.proofs.Farther.{drawn_stay_above, drawn_stay_below, stands_same}
use Rattle.redraw.proofs.Ordered.{AreNumbered}
use Rattle.redraw_laws.specs.DesignAgain.{RedrawnBreaks}

-- ---- an event among the drawn events

abbrev Stands : EventId → List DrawnEvent → Type 0
Stands e [] = ⊥
Stands e (s ∷ ss) = (s.event.0 ≡ e.0) ⊎ Stands e ss

stands_behind : (e : EventId) (last : Timed) (before : DrawnEvent) (xs : List Timed) → Has e xs → Stands e (stands_after last before xs)
stands_behind e last before [] h = absurd h
stands_behind e last before (x ∷ xs) (inl h) = inl h
stands_behind e last before (x ∷ xs) (inr h) = inr (stands_behind e x (next_stand last before x) xs h)

stands_there : (e : EventId) (xs : List Timed) → Has e xs → Stands e (stands_of xs)
stands_there e [] h = absurd h
stands_there e (x ∷ xs) (inl h) = inl h
stands_there e (x ∷ xs) (inr h) = inr (stands_behind e x (first_stand x) xs h)

-- the number of an event is its place, and its time is at that place
record IsPlaced (k : ℕ) (ss : List DrawnEvent) (e : EventId) : Type 0 where
  place : ℕ
  within : place < length ss
  number : number_in ss e ≡ k + place
  time : get_or (drawn_times ss) place (pos 0) ≡ time_in ss e

placed_by : (k : ℕ) (s : DrawnEvent) (ss : List DrawnEvent) (e : EventId) → s.number ≡ k → (Stands e ss → IsPlaced (k + 1) ss e) → (s.event.0 ≡ e.0) ⊎ Stands e ss → IsPlaced k (s ∷ ss) e
placed_by k s ss e is_number more there = by_test (s.event.0 == e.0) refl where
  first : (s.event.0 == e.0) ≡ true → IsPlaced k (s ∷ ss) e
  first is =
      let same : s.number ≡ k + 0 = omega (arith, is_number) in
      record {
        place = 0;
        within = omega arith;
        number = ap (λ b. if b then s.number else number_in ss e) is ∙ same;
        time = sym (ap (λ b. if b then s.time else time_in ss e) is);
      }

  later : (s.event.0 == e.0) ≡ false → IsPlaced (k + 1) ss e → IsPlaced k (s ∷ ss) e
  later is p =
      let same : (k + 1) + p.place ≡ k + suc p.place = omega arith in
      record {
        place = suc p.place;
        within = omega (arith, p.within);
        number = ap (λ b. if b then s.number else number_in ss e) is ∙ p.number ∙ same;
        time = p.time ∙ sym (ap (λ b. if b then s.time else time_in ss e) is);
      }

  by_test : (b : Bool) → (s.event.0 == e.0) ≡ b → IsPlaced k (s ∷ ss) e
  by_test true is = first is
  by_test false is = elim there [
    | inl here ↦ absurd (cc (eq-eqb s.event.0 e.0 here, is))
    | inr rest ↦ later is (more rest)
  ]

placed : (k : ℕ) (ss : List DrawnEvent) (e : EventId) → AreNumbered k ss → Stands e ss → IsPlaced k ss e
placed k [] e h there = absurd there
placed k (s ∷ ss) e h there = placed_by k s ss e h.0 (λ rest. placed (k + 1) ss e h.1 rest) there

-- ---- the drawn times plus a number

time_at : (ss : List DrawnEvent) (by : ℤ) (e : EventId) → AreNumbered 0 ss → Stands e ss → time_of (shifted (drawn_times ss) by) (event (number_in ss e)) ≡ (time_in ss e +ℤ by)
time_at ss by e numbered there =
    let p = placed 0 ss e numbered there in
    let at : 0 + p.place ≡ p.place = omega arith in
    ap (λ n. get_or (shifted (drawn_times ss) by) n (pos 0)) (p.number ∙ at)
    ∙ get_or-map (λ time. time +ℤ by) (drawn_times ss) p.place (pos 0) (pos 0) (omega (arith, p.within, length-map ss (λ (s : DrawnEvent). s.time)))
    ∙ ap (λ z. z +ℤ by) p.time

apart_again : (ss : List DrawnEvent) (from to : EventId) (others : List ℤ) (by : ℤ) → AreNumbered 0 ss → Stands from ss → Stands to ss → others ≡ shifted (drawn_times ss) by
    → separation others (event (number_in ss from)) (event (number_in ss to)) ≡ (time_in ss to -ℤ time_in ss from)
apart_again ss from to others by numbered has_from' has_to' is =
    ap (λ l. separation l (event (number_in ss from)) (event (number_in ss to))) is
    ∙ ap (λ z. z -ℤ time_of (shifted (drawn_times ss) by) (event (number_in ss from))) (time_at ss by to numbered has_to')
    ∙ ap (λ z. (time_in ss to +ℤ by) -ℤ z) (time_at ss by from numbered has_from')
    ∙ moved (time_in ss to) (time_in ss from) by where
      moved : (a b by : ℤ) → ((a +ℤ by) -ℤ (b +ℤ by)) ≡ (a -ℤ b)
      moved a b by = omega (arith, ints)

-- ---- past an end

above : (high : Option ℤ) (s : ℤ) (P : ℤ → Type 0) → IsSomeAnd high (λ h. IsInnerHigh h × P h) → ((h : ℤ) → IsInnerHigh h → P h → h <ℤ s) → IfSome high (λ h. s ≤ℤ h) → ⊥
above None s P h past allows = absurd h
above (Some h) s P is past allows = let less : h <ℤ s = past h is.0 is.1 in omega (arith, ints, less, allows)

below : (low : Option ℤ) (s : ℤ) (P : ℤ → Type 0) → IsSomeAnd low (λ l. IsInnerLow l × P l) → ((l : ℤ) → IsInnerLow l → P l → s <ℤ l) → IfSome low (λ l. l ≤ℤ s) → ⊥
below None s P h past allows = absurd h
below (Some l) s P is past allows = let less : s <ℤ l = past l is.0 is.1 in omega (arith, ints, less, allows)

pub redrawn_breaks : RedrawnBreaks
redrawn_breaks drawn row asked ends times again there within count past is others satisfied allows =
    let ss : List DrawnEvent = stands_drawn drawn row times in
    let same = stands_same drawn row asked times there count within in
    let numbered = subst (AreNumbered 0) (sym same) (numbered_stands (ordered_events asked.from asked.to (length times) times)) in
    let by = (is.satisfied others).0 satisfied in
    let apart = apart_again (stands_drawn drawn row times) asked.from asked.to others by.0 numbered
    (subst (Stands asked.from) (sym same) (stands_there asked.from (ordered_events asked.from asked.to (length times) times) (has_from asked.from asked.to (length times) times)))
    (subst (Stands asked.to) (sym same) (stands_there asked.to (ordered_events asked.from asked.to (length times) times) (has_to asked.from asked.to (length times) times))) by.1 in
    elim past [
      | inl high ↦ above ends.high _ (λ h. h <ℤ separation times asked.from asked.to) high
          (λ h inner less. subst (λ z. h <ℤ z) (sym apart) (drawn_stay_above drawn row asked times h there within count inner less)) allows.1
      | inr low ↦ below ends.low _ (λ l. separation times asked.from asked.to <ℤ l) low
          (λ l inner less. subst (λ z. z <ℤ l) (sym apart) (drawn_stay_below drawn row asked times l there within count inner less)) allows.0
    ]
