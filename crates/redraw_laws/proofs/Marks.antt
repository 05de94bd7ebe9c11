-- The marks and the pins of a drawing.
use Rattle.std.proofs.Common.{◌≡◌, ◌+◌, ◌<◌, ◌≤◌, ◌==◌, ℕ, zero, suc, inl, inr, Bool, true, false, not, ◌||◌, List, [], ◌∷◌, ◌++◌, map, flat_map, filter_map, nat_eq, replicate, ◌∙◌, refl, sym, ap, subst, arith, ne_eqb}
use Rattle.std.specs.List.{enumerate_from, list_all, list_any, range_with_len}
use Rattle.std.specs.Char.{is_ascii_graphic}
use Rattle.std.proofs.lemmas.Bool.{eqb-false, and_from, and_parts, cases_eq, or_from, or_right}
use Rattle.itv_base.specs.Characters.{is_mark}
use Rattle.itv_base.specs.Names.{Name}
use Rattle.itv_base.specs.declared.names.EventId.{EventId}
use Rattle.sheet.specs.declared.mark.Mark.{Mark}
use Rattle.sheet.specs.Lanes.{drawn_kind, has_bad_node, is_node_byte, lane_marks}
use Rattle.sheet.specs.Lanes as sheets
use Rattle.wavejson.specs.declared.lane_text.LaneText.{LaneText}
use Rattle.redraw.specs.declared.drawn_event.DrawnEvent.{DrawnEvent}
use Rattle.redraw.specs.declared.drawn_event.TheConstants.{MOST_DRAWN}
use Rattle.redraw.specs.Drawing.{lane_of, mark_at}
use Rattle.redraw.proofs.Ordered.{Every}
use Rattle.redraw_laws.proofs.Tree.{drawn_lane}

-- ---- the list of marks

pub all_in_range : (p : ℕ → Bool) (a n k : ℕ) → list_all p (range_with_len a n) ≡ true → a ≤ k → k < a + n → p k ≡ true
all_in_range p a zero k h least most = absurd (omega arith)
all_in_range p a (suc n) k h least most =
    let parts = and_parts (p a) (list_all p (range_with_len (a + 1) n)) h in
    elim (cases_eq a k) [
      | inl same ↦ subst (λ m. p m ≡ true) same parts.0
      | inr other ↦ all_in_range p (a + 1) n k parts.1 (omega arith) (omega arith)
    ]

mark_marks : list_all (λ k. is_mark (mark_at k)) (range_with_len 0 93) ≡ true
mark_marks = refl

marks_differ : list_all (λ k. list_all (λ j. not (mark_at j == mark_at k)) (range_with_len 0 k)) (range_with_len 0 93) ≡ true
marks_differ = refl

pub is_mark_at : (k : ℕ) → k < MOST_DRAWN → is_mark (mark_at k) ≡ true
is_mark_at k few = all_in_range (λ k. is_mark (mark_at k)) 0 93 k mark_marks (omega arith) (omega arith)

pub not_false : (b : Bool) → not b ≡ true → b ≡ false
not_false true h = sym h
not_false false h = refl

pub other_mark : (j k : ℕ) → j < k → k < MOST_DRAWN → (mark_at j == mark_at k) ≡ false
other_mark j k less few =
    let before : list_all (λ j. not (mark_at j == mark_at k)) (range_with_len 0 k) ≡ true =
    all_in_range (λ k. list_all (λ j. not (mark_at j == mark_at k)) (range_with_len 0 k)) 0 93 k marks_differ (omega arith) (omega arith) in
    not_false (mark_at j == mark_at k) (all_in_range (λ j. not (mark_at j == mark_at k)) 0 k j before (omega arith) (omega arith))

-- ---- one mark on a lane

pub one_mark : (number i p j m : ℕ) (lane : LaneText) → is_mark m ≡ true → i + p ≡ j
    → filter_map (sheets.mark_at number lane) (enumerate_from i (replicate p 46 ++ m ∷ [])) ≡ (record { lane = number; place = j; name = m; kind = drawn_kind lane.wave j }) ∷ []
one_mark number i zero j m lane h at =
    let same : i ≡ j = omega arith in
    rw h (ap (λ (n : ℕ). (record { lane = number; place = n; name = m; kind = drawn_kind lane.wave n }) ∷ []) same)
one_mark number i (suc p) j m lane h at = one_mark number (i + 1) p j m lane h (omega arith)

pub node_good : (p m : ℕ) → is_mark m ≡ true → list_all is_node_byte (replicate p 46 ++ m ∷ []) ≡ true
node_good zero m h =
    let graphic = (and_parts (is_ascii_graphic m) (not (m == 46)) h).0 in
    and_from (m == 32 || is_ascii_graphic m) true (or_right (m == 32) (is_ascii_graphic m) graphic) refl
node_good (suc p) m h = node_good p m h

-- ---- the marks of all lanes

abbrev pub text_lane : (EventId → Name) → DrawnEvent → LaneText
text_lane name s = drawn_lane (lane_of name s)

abbrev pub mark_of : ℕ → LaneText → DrawnEvent → Mark
mark_of k lane s = record { lane = k; place = s.place; name = mark_at s.number; kind = drawn_kind lane.wave s.place }

abbrev pub marks_from : (EventId → Name) → ℕ → List DrawnEvent → List Mark
marks_from name k [] = []
marks_from name k (s ∷ ss) = mark_of k (text_lane name s) s ∷ marks_from name (k + 1) ss

pub lane_mark : (name : EventId → Name) (k : ℕ) (s : DrawnEvent) → s.number < MOST_DRAWN → lane_marks (k, text_lane name s) ≡ mark_of k (text_lane name s) s ∷ []
lane_mark name k s few = one_mark k 0 s.place s.place (mark_at s.number) (text_lane name s) (is_mark_at s.number few) (omega arith)

abbrev pub IsFew : DrawnEvent → Type 0
IsFew s = s.number < MOST_DRAWN

pub marks_are : (name : EventId → Name) (k : ℕ) (ss : List DrawnEvent) → Every IsFew ss → flat_map lane_marks (enumerate_from k (map (text_lane name) ss)) ≡ marks_from name k ss
marks_are name k [] h = refl
marks_are name k (s ∷ ss) h =
    ap (λ l. l ++ flat_map lane_marks (enumerate_from (k + 1) (map (text_lane name) ss))) (lane_mark name k s h.0)
    ∙ ap (λ l. mark_of k (text_lane name s) s ∷ l) (marks_are name (k + 1) ss h.1)

pub none_bad : (name : EventId → Name) (ss : List DrawnEvent) → Every IsFew ss → Every (λ lane. has_bad_node lane ≡ false) (map (text_lane name) ss)
none_bad name [] h = tt
none_bad name (s ∷ ss) h = (ap not (node_good s.place (mark_at s.number) (is_mark_at s.number h.0)), none_bad name ss h.1)

apart_marks : (j n : ℕ) → j < n → n < MOST_DRAWN → nat_eq (mark_at n) (mark_at j) ≡ false
apart_marks j n less few = ne_eqb (mark_at n) (mark_at j) (λ e. eqb-false (mark_at j) (mark_at n) (other_mark j n less few) (sym e))

pub fresh_mark : (j k n : ℕ) → n < MOST_DRAWN → j + k ≤ n → list_any (nat_eq (mark_at n)) (map mark_at (range_with_len j k)) ≡ false
fresh_mark j zero n few h = refl
fresh_mark j (suc k) n few h = or_from (nat_eq (mark_at n) (mark_at j)) _ (apart_marks j n (omega arith) few) (fresh_mark (j + 1) k n few (omega arith))
