-- The drawn events of a row can be drawn and read.
use Rattle.std.proofs.Common.{◌≡◌, ◌+◌, ◌<◌, ◌≤◌, ℕ, ℤ, pos, ◌-ℤ◌, ◌≤ℤ◌, Bool, true, false, not, List, [], ◌∷◌, ◌++◌, length, bytes_eq, None, ◌∙◌, refl, sym, arith}
use Rattle.std.specs.List.{list_any}
use Rattle.std.proofs.lemmas.Bool.{or_from}
use Rattle.std.proofs.lemmas.Int.{ints}
use Rattle.std.proofs.lemmas.List.Folds.{list_any-append}
use Rattle.std.proofs.lemmas.Slice.Eq.{bytes_eq-Decides}
use Rattle.itv_base.specs.Names.{Name}
use Rattle.itv_base.specs.Range.{Ends, IsRange, is_wide}
use Rattle.itv_base.specs.declared.names.EventId.{EventId}
use Rattle.label_grammar.specs.declared.label.Kind.{Kind}
use Rattle.label_grammar.specs.declared.label.Kind.TheVariants.{Lin, Req}
use Rattle.label_grammar.specs.Label.{IsProper, is_ask, version_1}
use Rattle.sheet.specs.Lanes.{first_repeated}
use Rattle.slack_report.specs.Text.{name_word}
use Rattle.slack_report.proofs.RangeWord.{test_from_order, test_from_end}
use Rattle.redraw.specs.declared.drawn_event.DrawnEvent.{DrawnEvent}
use Rattle.redraw.specs.declared.drawn_event.Timed.{Timed}
use Rattle.redraw.specs.declared.drawn_event.TheConstants.{MOST_DRAWN}
use Rattle.redraw.specs.Narrowing.{widest_gap}
use Rattle.redraw.specs.Drawing.{exactly, next_stand, number_in, range_label, stands_after, stands_of}
use Rattle.redraw.specs.Order.{ordered_events}
use Rattle.redraw.specs.Step.{AreNear, StandNear}
use Rattle.redraw.proofs.Distinct.{AllApart, TimedApart, has_from, has_to, number_within, numbered_stands, ordered_apart}
use Rattle.redraw_laws.proofs.Linked.{IsSound, demand_link, links_by, step_links}
use Rattle.redraw_laws.proofs.Marks.{IsFew, marks_from}
use Rattle.redraw.proofs.Ordered.{AreNumbered, Every, every_append}
use Rattle.redraw_laws.proofs.Read.{lane_names, number_is}
use Rattle.redraw_laws.proofs.Sheets.{IsDrawable}

-- ---- labels

asks_range : (b : Bool) → b ≡ false → true ≡ not b
asks_range true e = e
asks_range false e = refl

pub range_proper : (kind : Kind) (ends : Ends) → is_ask kind ≡ false → IsRange ends → IsProper version_1 (range_label kind ends)
range_proper kind ends asks h = record {
  loose = record { shift = omega arith; tag = tt; ends = asks_range (is_ask kind) asks; form = refl };
  narrow = or_from (is_wide ends.low) (is_wide ends.high) (test_from_end ends.low h.0) (test_from_end ends.high h.1);
  ordered = test_from_order ends.low ends.high h.2;
}

pub exact_range : (d : ℤ) → pos 0 ≤ℤ d → d ≤ℤ pos widest_gap → IsRange (exactly d)
exact_range d low high = ((omega (arith, ints), high), (omega (arith, ints), high), omega (arith, ints))

-- ---- links

steps_sound : (name : EventId → Name) (all : List DrawnEvent) (before : DrawnEvent) (ss : List DrawnEvent) (k : ℕ) → AreNumbered 0 all → length all ≤ MOST_DRAWN → before.number ≡ k → AreNumbered (k + 1) ss
    → (k + 1) + length ss ≤ length all → AreNear before ss → Every (IsSound (marks_from name 0 all)) (step_links before ss)
steps_sound name all before [] k numbered few at h within near = tt
steps_sound name all before (s ∷ ss) k numbered few at h within near =
    let in_before : before.number < length all = omega arith in
    let in_stand : s.number < length all = omega (arith, h.0) in (
      record {
        from = number_is name before.number all numbered few in_before;
        to = number_is name s.number all numbered few in_stand;
        from_few = omega arith;
        to_few = omega arith;
        label = range_proper Lin (exactly (s.time -ℤ before.time)) refl (exact_range (s.time -ℤ before.time) near.0 near.1);
        timing = refl;
        single = λ other. refl;
      },
      steps_sound name all s ss (k + 1) numbered few h.0 h.1 (omega arith) near.2,
    )

links_sound : (name : EventId → Name) (all : List DrawnEvent) → AreNumbered 0 all → length all ≤ MOST_DRAWN → StandNear all → Every (IsSound (marks_from name 0 all)) (links_by all)
links_sound name [] numbered few near = tt
links_sound name (s ∷ ss) numbered few near = steps_sound name (s ∷ ss) s ss 0 numbered few numbered.0 numbered.1 (omega arith) near

demand_sound : (name : EventId → Name) (all : List DrawnEvent) (from to : EventId) (ends : Ends) → AreNumbered 0 all → length all ≤ MOST_DRAWN → IsRange ends
    → number_in all from < length all → number_in all to < length all → IsSound (marks_from name 0 all) (demand_link all from to ends)
demand_sound name all from to ends numbered few range in_from in_to = record {
  from = number_is name (number_in all from) all numbered few in_from;
  to = number_is name (number_in all to) all numbered few in_to;
  from_few = omega arith;
  to_few = omega arith;
  label = range_proper Req ends refl range;
  timing = refl;
  single = λ other. refl;
}

-- ---- names

-- different events of a network have different names
abbrev pub NamesDiffer : ℕ → (EventId → Name) → Type 0
NamesDiffer events name = (a b : EventId) → a.0 < events → b.0 < events → name_word (name a) ≡ name_word (name b) → a.0 ≡ b.0

-- the name of an event is not among some names
abbrev IsFresh : (EventId → Name) → List (List ℕ) → Timed → Type 0
IsFresh name before x = list_any (bytes_eq (name_word (name x.event))) before ≡ false

apart_bytes : (x y : List ℕ) → (x ≡ y → ⊥) → bytes_eq x y ≡ false
apart_bytes x y h = by_test (bytes_eq x y) refl where
  by_test : (t : Bool) → bytes_eq x y ≡ t → t ≡ false
  by_test true e = absurd (h ((bytes_eq-Decides x y).0 e))
  by_test false e = refl

none_any : (x : List ℕ) (before : List (List ℕ)) (y : List ℕ) → list_any (bytes_eq x) before ≡ false → (x ≡ y → ⊥) → list_any (bytes_eq x) (before ++ y ∷ []) ≡ false
none_any x before y h other =
    list_any-append (bytes_eq x) before (y ∷ [])
    ∙ or_from (list_any (bytes_eq x) before) (list_any (bytes_eq x) (y ∷ [])) h (or_from (bytes_eq x y) false (apart_bytes x y other) refl)

fresh_more : (n : ℕ) (name : EventId → Name) (before : List (List ℕ)) (x : Timed) (xs : List Timed) → NamesDiffer n name → x.event.0 < n → Every (λ (y : Timed). y.event.0 < n) xs
    → Every (TimedApart x) xs → Every (IsFresh name before) xs → Every (IsFresh name (before ++ name_word (name x.event) ∷ [])) xs
fresh_more n name before x [] differ here there apart fresh = tt
fresh_more n name before x (y ∷ ys) differ here there apart fresh = (
  none_any (name_word (name y.event)) before (name_word (name x.event)) fresh.0 (λ same. apart.0 (sym (differ y.event x.event there.0 here same))),
  fresh_more n name before x ys differ here there.1 apart.1 fresh.1,
)

names_after : (n : ℕ) (name : EventId → Name) (before : List (List ℕ)) (last : Timed) (stand : DrawnEvent) (xs : List Timed) → NamesDiffer n name → Every (λ (y : Timed). y.event.0 < n) xs → AllApart xs
    → Every (IsFresh name before) xs → first_repeated bytes_eq (λ (text : List ℕ). text) before (lane_names name (stands_after last stand xs)) ≡ None
names_after n name before last stand [] differ there apart fresh = refl
names_after n name before last stand (x ∷ xs) differ there apart fresh =
    rw fresh.0 (names_after n name (before ++ name_word (name x.event) ∷ []) x (next_stand last stand x) xs differ there.1 apart.1
    (fresh_more n name before x xs differ there.0 there.1 apart.0 fresh.1))

none_before : (name : EventId → Name) (xs : List Timed) → Every (IsFresh name []) xs
none_before name [] = tt
none_before name (x ∷ xs) = (refl, none_before name xs)

names_distinct : (n : ℕ) (name : EventId → Name) (xs : List Timed) → NamesDiffer n name → Every (λ (y : Timed). y.event.0 < n) xs → AllApart xs
    → first_repeated bytes_eq (λ (text : List ℕ). text) [] (lane_names name (stands_of xs)) ≡ None
names_distinct n name [] differ there apart = refl
names_distinct n name (x ∷ xs) differ there apart =
    names_after n name (name_word (name x.event) ∷ []) x _ xs differ there.1 apart.1 (fresh_more n name [] x xs differ there.0 there.1 apart.0 (none_before name xs))

-- ---- the whole

pub drawable : (n : ℕ) (name : EventId → Name) (from to : EventId) (ends : Ends) (times : List ℤ) (xs : List Timed) → xs ≡ ordered_events from to n times → 1 ≤ length xs → length xs ≤ MOST_DRAWN
    → length (stands_of xs) ≡ length xs → Every (λ (y : Timed). y.event.0 < n) xs → Every IsFew (stands_of xs) → StandNear (stands_of xs) → NamesDiffer n name → IsRange ends
    → IsDrawable name from to ends (stands_of xs)
drawable n name from to ends times xs at some few count there marked near differ range =
    let short : length (stands_of xs) ≤ MOST_DRAWN = omega arith in
    let in_from : number_in (stands_of xs) from < length xs = number_within from xs (rw at (has_from from to n times)) in
    let in_to : number_in (stands_of xs) to < length xs = number_within to xs (rw at (has_to from to n times)) in
    record {
      some = omega arith;
      few = short;
      numbers = numbered_stands xs;
      marked = marked;
      names = names_distinct n name xs differ there (rw at (ordered_apart from to n times));
      links = every_append (IsSound (marks_from name 0 (stands_of xs))) (links_by (stands_of xs)) _ (links_sound name (stands_of xs) (numbered_stands xs) short near)
          (demand_sound name (stands_of xs) from to ends (numbered_stands xs) short range (omega arith) (omega arith), tt);
    }
