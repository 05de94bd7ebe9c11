-- The marks and the pins of a drawing are read without a fault.
use Rattle.std.proofs.Common.{◌≡◌, ◌+◌, ◌-◌, ◌<◌, ◌≤◌, ◌==◌, ℕ, suc, inl, inr, Bool, true, false, if◌then◌else◌, List, [], ◌∷◌, ◌++◌, length, map, flat_map, filter_map, nat_eq, bytes_eq, Option, Some, None, Ok, ◌∙◌, refl, sym, ap, arith, eq-eqb, lt-ltb}
use Rattle.std.specs.List.{list_any, position_or_len, range_with_len}
use Rattle.std.proofs.lemmas.Bool.{cases_eq}
use Rattle.std.proofs.lemmas.List.FromFn.{map-range_with_len_more}
use Rattle.itv_base.specs.Names.{Name}
use Rattle.itv_base.specs.declared.names.EventId.{EventId}
use Rattle.origin.specs.declared.origin.Origin.TheVariants.{Lane}
use Rattle.sheet.specs.declared.mark.Mark.{Mark}
use Rattle.sheet.specs.declared.pin.Pin.{Pin}
use Rattle.sheet.specs.Lanes.{NumberedLane, first_repeated, follows_rule, has_bad_node, lane_order, numbered_from, order_rules, pin_of}
use Rattle.sheet.specs.Links.{number_of}
use Rattle.sheet.specs.Rule.{RuleView}
use Rattle.sheet.specs.Sheet.{read_marks, read_pins}
use Rattle.redraw.specs.declared.drawn_event.DrawnEvent.{DrawnEvent}
use Rattle.redraw.specs.declared.drawn_event.TheConstants.{MOST_DRAWN}
use Rattle.redraw.specs.Drawing.{mark_at}
use Rattle.slack_report.specs.Text.{name_word}
use Rattle.redraw_laws.proofs.Marks.{IsFew, fresh_mark, lane_mark, marks_are, marks_from, none_bad, other_mark, text_lane}
use Rattle.redraw.proofs.Ordered.{AreNumbered, Every}
use Rattle.redraw_laws.proofs.Tree.{no_position}

-- ---- marks

unrepeated : (name : EventId → Name) (k j : ℕ) (ss : List DrawnEvent) → AreNumbered k ss → k + length ss ≤ MOST_DRAWN
    → first_repeated nat_eq (λ (mark : Mark). mark.name) (map mark_at (range_with_len 0 k)) (marks_from name j ss) ≡ None
unrepeated name k j [] h few = refl
unrepeated name k j (s ∷ ss) h few =
    let fresh : list_any (nat_eq (mark_at s.number)) (map mark_at (range_with_len 0 k)) ≡ false =
    ap (λ n. list_any (nat_eq (mark_at n)) (map mark_at (range_with_len 0 k))) h.0 ∙ fresh_mark 0 k k (omega arith) (omega arith) in
    let more : map mark_at (range_with_len 0 k) ++ mark_at s.number ∷ [] ≡ map mark_at (range_with_len 0 (k + 1)) =
    ap (λ n. map mark_at (range_with_len 0 k) ++ mark_at n ∷ []) h.0 ∙ sym (map-range_with_len_more mark_at 0 k k (omega arith)) in
    rw fresh
    (ap (λ l. first_repeated nat_eq (λ (mark : Mark). mark.name) l (marks_from name (j + 1) ss)) more ∙ unrepeated name (k + 1) (j + 1) ss h.1 (omega arith))

pub marks_read : (name : EventId → Name) (ss : List DrawnEvent) → AreNumbered 0 ss → length ss ≤ MOST_DRAWN → Every IsFew ss
    → read_marks (map (text_lane name) ss) ≡ Ok (marks_from name 0 ss)
unfolding read_marks
marks_read name ss numbered few h =
    rw (no_position has_bad_node (map (text_lane name) ss) (none_bad name ss h), marks_are name 0 ss h, unrepeated name 0 0 ss numbered (omega arith)) refl

-- ---- the mark of a number

find_mark : (name : EventId → Name) (k j i : ℕ) (ss : List DrawnEvent) → AreNumbered k ss → k ≤ i → i < k + length ss → i < MOST_DRAWN
    → position_or_len (λ (mark : Mark). mark.name == mark_at i) (marks_from name j ss) + k ≡ i
find_mark name k j i [] h least most few = absurd (omega arith)
find_mark name k j i (s ∷ ss) h least most few =
    elim (cases_eq k i) [
      | inl same ↦
          let here : (mark_at s.number == mark_at i) ≡ true = eq-eqb (mark_at s.number) (mark_at i) (ap mark_at (h.0 ∙ same)) in
          rw here (omega arith)
      | inr other ↦
          let apart : (mark_at s.number == mark_at i) ≡ false = ap (λ n. mark_at n == mark_at i) h.0 ∙ other_mark k i (omega arith) few in
          let rest : position_or_len (λ (mark : Mark). mark.name == mark_at i) (marks_from name (j + 1) ss) + (k + 1) ≡ i = find_mark name (k + 1) (j + 1) i ss h.1 (omega arith) (omega arith) few in
          rw apart (omega arith)
    ]

pub length-marks : (name : EventId → Name) (j : ℕ) (ss : List DrawnEvent) → length (marks_from name j ss) ≡ length ss
length-marks name j [] = refl
length-marks name j (s ∷ ss) = ap suc (length-marks name (j + 1) ss)

pub number_is : (name : EventId → Name) (i : ℕ) (ss : List DrawnEvent) → AreNumbered 0 ss → length ss ≤ MOST_DRAWN → i < length ss → number_of (marks_from name 0 ss) (mark_at i) ≡ Some i
number_is name i ss numbered few within =
    let at : position_or_len (λ (mark : Mark). mark.name == mark_at i) (marks_from name 0 ss) ≡ i =
    omega (arith, find_mark name 0 0 i ss numbered (omega arith) (omega arith) (omega arith)) in
    rw (at, length-marks name 0 ss, lt-ltb i (length ss) within) refl

-- ---- pins and the order on lanes

abbrev numbered_lane : (EventId → Name) → ℕ → DrawnEvent → NumberedLane
numbered_lane name k s = record { number = k; lane = text_lane name s; first = k; count = 1 }

abbrev numbers_from : (EventId → Name) → ℕ → List DrawnEvent → List NumberedLane
numbers_from name k [] = []
numbers_from name k (s ∷ ss) = numbered_lane name k s ∷ numbers_from name (k + 1) ss

abbrev numbered_by : (EventId → Name) → ℕ → DrawnEvent → List DrawnEvent → ℕ → List NumberedLane
numbered_by name k s ss n = record { number = k; lane = text_lane name s; first = k; count = n } ∷ numbered_from (k + 1) (k + n) (map (text_lane name) ss)

numbers_are : (name : EventId → Name) (k : ℕ) (ss : List DrawnEvent) → Every IsFew ss → numbered_from k k (map (text_lane name) ss) ≡ numbers_from name k ss
numbers_are name k [] h = refl
numbers_are name k (s ∷ ss) h =
    ap (λ marks. numbered_by name k s ss (length marks)) (lane_mark name k s h.0) ∙ ap (λ l. numbered_lane name k s ∷ l) (numbers_are name (k + 1) ss h.1)

abbrev pub pins_from : (EventId → Name) → ℕ → List DrawnEvent → List Pin
pins_from name k [] = []
pins_from name k (s ∷ ss) = record { lane = k; name = name_word (name s.event); first = k; count = 1 } ∷ pins_from name (k + 1) ss

pins_named : (name : EventId → Name) (k : ℕ) (ss : List DrawnEvent) → filter_map pin_of (numbers_from name k ss) ≡ pins_from name k ss
pins_named name k [] = refl
pins_named name k (s ∷ ss) = ap (λ l. record { lane = k; name = name_word (name s.event); first = k; count = 1 } ∷ l) (pins_named name (k + 1) ss)

-- the names of the lanes
abbrev pub lane_names : (EventId → Name) → List DrawnEvent → List (List ℕ)
lane_names name ss = map (λ (s : DrawnEvent). name_word (name s.event)) ss

none_too : {X Y : Type 0} (t : Bool) (x : X) (y : Y) (a : Option X) (b : Option Y) → (if t then Some x else a) ≡ None → (a ≡ None → b ≡ None) → (if t then Some y else b) ≡ None
none_too true x y a b h next = absurd (cc h)
none_too false x y a b h next = next h

pins_unrepeated : (name : EventId → Name) (k : ℕ) (before : List (List ℕ)) (ss : List DrawnEvent) → first_repeated bytes_eq (λ (text : List ℕ). text) before (lane_names name ss) ≡ None
    → first_repeated bytes_eq (λ (pin : Pin). pin.name) before (pins_from name k ss) ≡ None
pins_unrepeated name k before [] h = refl
pins_unrepeated name k before (s ∷ ss) h =
    none_too (list_any (bytes_eq (name_word (name s.event))) before) _ _ _ _ h (pins_unrepeated name (k + 1) (before ++ name_word (name s.event) ∷ []) ss)

pub pins_read : (name : EventId → Name) (ss : List DrawnEvent) → Every IsFew ss → first_repeated bytes_eq (λ (text : List ℕ). text) [] (lane_names name ss) ≡ None
    → read_pins (map (text_lane name) ss) ≡ Ok (pins_from name 0 ss)
unfolding read_pins
pins_read name ss h distinct = rw (numbers_are name 0 ss h, pins_named name 0 ss, pins_unrepeated name 0 [] ss distinct) refl

-- the mark of each lane comes no earlier than in the cycle before
abbrev pub orders_from : ℕ → List DrawnEvent → List RuleView
orders_from k [] = []
orders_from k (s ∷ ss) = follows_rule (Lane k) ((k + 1) - 1) k 1 ∷ orders_from (k + 1) ss

orders_named : (name : EventId → Name) (k : ℕ) (ss : List DrawnEvent) → flat_map lane_order (numbers_from name k ss) ≡ orders_from k ss
orders_named name k [] = refl
orders_named name k (s ∷ ss) = ap (λ l. follows_rule (Lane k) ((k + 1) - 1) k 1 ∷ l) (orders_named name (k + 1) ss)

pub orders_are : (name : EventId → Name) (ss : List DrawnEvent) → Every IsFew ss → order_rules (map (text_lane name) ss) ≡ orders_from 0 ss
orders_are name ss h = ap (flat_map lane_order) (numbers_are name 0 ss h) ∙ orders_named name 0 ss
