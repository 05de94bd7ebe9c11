-- A matrix that is improved through an event, one row after another.
use Rattle.std.proofs.Common.{◌≡◌, ◌+◌, ◌<◌, ◌≤◌, inl, inr, ℕ, ℤ, pos, ◌+ℤ◌, true, List, [], length, get_or, All, w64, to_z, of_z, ◌∙◌, sym, ap, subst, refl, arith}
use Rattle.std.specs.Prelude.{int_lt, slice_index_or}
use Rattle.std.proofs.lemmas.Bool.{cases_eq, cases_lt}
use Rattle.std.proofs.lemmas.Int.{ints, to_z-of_z}
use Rattle.std.proofs.lemmas.List.{get_or_default, get_or_past}
use mir.Val.{SFits}
use Rattle.minplus.specs.Rows.{IsEntry, Improves, entry_at, improved}
use Rattle.minplus.specs.Matrix.{IsSquare, cells}
use Rattle.minplus.specs.Step.Rows.{RowThrough}
use Rattle.minplus.specs.Step.Entries.{IsPresent, IsThrough, IsAtMostSum}
use Rattle.minplus.specs.declared.rows.TheConstants.{ABSENT}
use Rattle.minplus.proofs.Numbers.{IsImproved, improved_is, there_from}

-- every place of a row has an entry, even past its end
pub entry_held : (row : List ℤ) (place : ℕ) → All IsEntry row → IsEntry (entry_at row place)
entry_held row place held =
    elim (cases_lt place (length row)) [
      | inl within ↦ held place ABSENT within
      | inr past ↦ inl (get_or_past row place ABSENT past)
    ]

-- a row was improved, where the weight is its entry at the event
row_improved : (event : ℕ) (old through new : List ℤ) (weight : ℤ) → weight ≡ entry_at old event → IsPresent weight → All IsEntry through → Improves weight old through new
    → RowThrough event old through new
row_improved event old through new weight is there held improves = record {
  count = improves.count;
  falls = λ to. rw (improves.each to) ((at to).falls);
  least = λ to first second. let within = (at to).least second in rw (improves.each to, sym is) within;
  made = λ to. elim ((at to).made) [
    | inl same ↦ inl (improves.each to ∙ same)
    | inr sum ↦ inr (subst IsPresent is there, sum.0, improves.each to ∙ sum.1 ∙ ap (λ w. w +ℤ entry_at through to) is)
  ];
}
  where
    at : (to : ℕ) → IsImproved weight (entry_at old to) (entry_at through to) (improved weight (entry_at old to) (entry_at through to))
    at to = improved_is weight (entry_at old to) (entry_at through to) (entry_held through to held)

-- the entry at the event, as the code reads it
read_at : (event : ℕ) (row : List ℤ) (weight : ℤ) → event < length row → SFits w64 (get_or row event (pos 0)) → weight ≡ to_z w64 (of_z w64 (get_or row event (pos 0))) → weight ≡ entry_at row event
read_at event row weight below fits is = is ∙ to_z-of_z w64 _ fits ∙ get_or_default row event (pos 0) ABSENT below

-- a row was improved, where the entry that the code reads is present
pub row_by_bits : (event : ℕ) (old through new : List ℤ) → event < length old → SFits w64 (get_or old event (pos 0)) → int_lt (to_z w64 (of_z w64 (get_or old event (pos 0)))) ABSENT ≡ true
    → All IsEntry through → Improves (to_z w64 (of_z w64 (get_or old event (pos 0)))) old through new → RowThrough event old through new
row_by_bits event old through new below fits there held improves =
    row_improved event old through new _ (read_at event old _ below fits refl) (there_from _ there) held improves

-- the row of an event
abbrev pub row_of : List (List ℤ) → ℕ → List ℤ
row_of rows event = slice_index_or rows event []

-- the rows before a number were improved through an event. The other rows did not change
pub record IsHalfway (event rows_done : ℕ) (old now : List (List ℤ)) (through : List ℤ) : Type 0 where
  pub own : through ≡ row_of old event
  pub count : length now ≡ length old
  pub done : (from : ℕ) → from < rows_done → RowThrough event (row_of old from) through (row_of now from)
  pub left : (from : ℕ) → rows_done ≤ from → row_of now from ≡ row_of old from

pub begun : (event : ℕ) (rows : List (List ℤ)) (through : List ℤ) → through ≡ row_of rows event → IsHalfway event 0 rows rows through
begun event rows through own = record { own = own; count = refl; done = λ from below. absurd (omega arith); left = λ from high. refl }

pub one_row : (event k : ℕ) (old now new : List (List ℤ)) (through : List ℤ) → IsHalfway event k old now through → RowThrough event (row_of now k) through (row_of new k)
    → ((other : ℕ) → (other ≡ k → ⊥) → row_of new other ≡ row_of now other) → length new ≡ length now → IsHalfway event (k + 1) old new through
one_row event k old now new through half row others count = record {
  own = half.own;
  count = count ∙ half.count;
  done = λ from below. elim (cases_eq from k) [
    | inl same ↦
        let P : ℕ → Type 0 = λ at. RowThrough event (row_of old at) through (row_of new at) in
        let Q : List ℤ → Type 0 = λ was. RowThrough event was through (row_of new k) in
        subst P (sym same) (subst Q (half.left k (omega arith)) row)
    | inr apart ↦
        let Q : List ℤ → Type 0 = λ now_row. RowThrough event (row_of old from) through now_row in
        subst Q (sym (others from apart)) (half.done from (omega arith))
  ];
  left = λ from high. let apart : from ≡ k → ⊥ = λ same. omega arith in others from apart ∙ half.left from (omega arith);
}

-- there is no row past the last
no_row : (rows : List (List ℤ)) (from to : ℕ) → length rows ≤ from → cells rows from to ≡ ABSENT
no_row rows from to past = ap (λ (row : List ℤ). entry_at row to) (get_or_past rows from [] past)

pub all_square : (event : ℕ) (old now : List (List ℤ)) (through : List ℤ) → IsHalfway event (length old) old now through → IsSquare (length old) old → IsSquare (length old) now
all_square event old now through half square = record {
  count = half.count;
  each = λ from below. (half.done from below).count ∙ square.each from below;
}

pub all_through : (event : ℕ) (old now : List (List ℤ)) (through : List ℤ) → IsHalfway event (length old) old now through → IsThrough event (cells old) (cells now)
all_through event old now through half = record {
  falls = λ from to. elim (cases_lt from (length old)) [
    | inl within ↦ (half.done from within).falls to
    | inr past ↦ let same : cells now from to ≡ cells old from to = stays from to past in omega (arith, ints)
  ];
  least = λ from to first second. elim (cases_lt from (length old)) [
    | inl within ↦ own to (cells now from to) (cells old from event) ((half.done from within).least to) first second
    | inr past ↦ let absent : cells old from event ≡ ABSENT = no_row old from event past in absurd (omega (arith, ints))
  ];
  made = λ from to. elim (cases_lt from (length old)) [
    | inl within ↦ elim ((half.done from within).made to) [
      | inl same ↦ inl same
      | inr sum ↦
          let same : entry_at through to ≡ cells old event to = ap (λ (row : List ℤ). entry_at row to) half.own in
          inr (sum.0, subst IsPresent same sum.1, sum.2 ∙ ap (λ x. cells old from event +ℤ x) same)
    ]
    | inr past ↦ inl (stays from to past)
  ];
}
  where
    stays : (from to : ℕ) → length old ≤ from → cells now from to ≡ cells old from to
    stays from to past = ap (λ (row : List ℤ). entry_at row to) (half.left from past)

    own : (to : ℕ) (entry first : ℤ) → IsAtMostSum entry first (entry_at through to) → IsAtMostSum entry first (cells old event to)
    own to entry first within =
        let same : entry_at through to ≡ cells old event to = ap (λ (row : List ℤ). entry_at row to) half.own in
        subst (IsAtMostSum entry first) same within

-- each row has entries
pub rows_held : (rows : List (List ℤ)) → ((from to : ℕ) → IsEntry (cells rows from to)) → All (All IsEntry) rows
rows_held rows held = λ from d within to e inside.
    let row : get_or rows from d ≡ row_of rows from = get_or_default rows from d [] within in
    rw row
    (let inside_it : to < length (row_of rows from) = subst (λ (r : List ℤ). to < length r) row inside in
    rw (get_or_default (row_of rows from) to e ABSENT inside_it) (held from to))
