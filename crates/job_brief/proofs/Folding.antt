-- Runs of rows, and the runs of their ranks.
use Rattle.std.proofs.Common.{◌≡◌, ◌<◌, ◌≤◌, ◌+◌, ℕ, zero, suc, Bool, true, false, List, [], ◌∷◌, ◌++◌, All, length, map, take, drop, set, get_or, Some, Result, Ok, Err, slice_get, refl, sym, subst, ap, ◌∙◌, add-one, drop-cons, arith}
use Rattle.std.specs.Bool.{⊤}
use Rattle.std.specs.Prelude.{OnOk, if◌then◌else◌}
use Rattle.std.proofs.lemmas.List.Elements.{All-cons, All-head, All-nil, All-tail}
use Rattle.drawn_networks.specs.Drawn.{Drawn}
use Rattle.drawn_networks.specs.declared.row.Row.{Row}
use Rattle.explanations.specs.declared.row.RowFound.{RowFound}
use Rattle.job_brief.specs.declared.row_rank.RowRank.{RowRank}
use Rattle.job_brief.specs.declared.run_place.RunPlace.{RunPlace}
use Rattle.job_brief.specs.Rows.{NumberedRow, RowRun, folded, goes_on, runs_of}
use Rattle.job_brief.specs.Step.{both_meet, fold_at, fold_onto, folded_at, goes_on_at, numbered_rows, place_of, run_place, folded_onto}
use Rattle.job_brief.proofs.Numbered.{Each, IsOf, each_numbered, told_at, told_is}

-- ---- a row in a run of a number

-- a run is there: its last row is another
pub at_run : (row : RowRank) (runs : List RunPlace) (k : ℕ) (d : RunPlace) → k < length runs → folded_at k row runs ≡ set runs k (record { first = (get_or runs k d).first; last = row.number })
at_run row [] k d h = absurd (omega arith)
at_run row (run ∷ runs) zero d h = refl
at_run row (run ∷ runs) (suc k) d h = ap (λ l. run ∷ l) (at_run row runs k d (omega arith))

-- no run is there: it is a new one
pub at_end : (row : RowRank) (runs : List RunPlace) (k : ℕ) → length runs ≤ k → folded_at k row runs ≡ runs ++ record { first = row; last = row.number } ∷ []
at_end row [] zero h = refl
at_end row [] (suc k) h = refl
at_end row (run ∷ runs) zero h = absurd (omega arith)
at_end row (run ∷ runs) (suc k) h = ap (λ l. run ∷ l) (at_end row runs k (omega arith))

-- numbers of last rows stay below a limit
pub folded_within : (limit k : ℕ) (row : RowRank) (runs : List RunPlace) → row.number < limit → All (λ (run : RunPlace). run.last < limit) runs
    → All (λ (run : RunPlace). run.last < limit) (folded_at k row runs)
folded_within limit zero row [] h all = All-cons (λ (run : RunPlace). run.last < limit) (record { first = row; last = row.number }) [] h (All-nil (λ (run : RunPlace). run.last < limit))
folded_within limit (suc k) row [] h all = All-cons (λ (run : RunPlace). run.last < limit) (record { first = row; last = row.number }) [] h (All-nil (λ (run : RunPlace). run.last < limit))
folded_within limit zero row (run ∷ runs) h all =
    All-cons (λ (run : RunPlace). run.last < limit) (record { first = run.first; last = row.number }) runs h (All-tail (λ (run : RunPlace). run.last < limit) run runs all)
folded_within limit (suc k) row (run ∷ runs) h all =
    All-cons (λ (run : RunPlace). run.last < limit) run (folded_at k row runs) (All-head (λ (run : RunPlace). run.last < limit) run runs all)
    (folded_within limit k row runs h (All-tail (λ (run : RunPlace). run.last < limit) run runs all))

-- ---- the run of a row

module _ (drawn : Drawn) (found : List RowFound) (row : RowRank) where
  -- the row does not go on with a run
  pub past_run : (runs : List RunPlace) (k : ℕ) (d : RunPlace) → k < length runs → goes_on_at drawn found (get_or runs k d).last row.number ≡ false
      → take k runs ++ fold_at drawn found row (drop k runs) ≡ take (k + 1) runs ++ fold_at drawn found row (drop (k + 1) runs)
  past_run runs k d h e = rw add-one (go runs k h e)
    where
      go : (runs : List RunPlace) (k : ℕ) → k < length runs → goes_on_at drawn found (get_or runs k d).last row.number ≡ false
          → take k runs ++ fold_at drawn found row (drop k runs) ≡ take (suc k) runs ++ fold_at drawn found row (drop (suc k) runs)
      go [] k h e = absurd (omega arith)
      go (run ∷ runs) zero h e = rw e refl
      go (run ∷ runs) (suc k) h e = ap (λ l. run ∷ l) (go runs k (omega arith) e)

  -- it goes on with a run
  pub here_run : (runs : List RunPlace) (k : ℕ) (d : RunPlace) → k < length runs → goes_on_at drawn found (get_or runs k d).last row.number ≡ true
      → take k runs ++ fold_at drawn found row (drop k runs) ≡ folded_at k row runs
  here_run [] k d h e = absurd (omega arith)
  here_run (run ∷ runs) zero d h e = rw e refl
  here_run (run ∷ runs) (suc k) d h e = ap (λ l. run ∷ l) (here_run runs k d (omega arith) e)

  -- it goes on with no run
  pub no_run : (runs : List RunPlace) (k : ℕ) → length runs ≡ k → take k runs ++ fold_at drawn found row (drop k runs) ≡ folded_at k row runs
  no_run [] zero h = refl
  no_run [] (suc k) h = absurd (omega arith)
  no_run (run ∷ runs) zero h = absurd (omega arith)
  no_run (run ∷ runs) (suc k) h = ap (λ l. run ∷ l) (no_run runs k (omega arith))

-- a row was put to its run
pub folds : {E : Type 0} (result : Result ⊤ E) (drawn : Drawn) (found : List RowFound) (k : ℕ) (row : RowRank) (runs now : List RunPlace) → folded_at k row runs ≡ fold_at drawn found row runs
    → OnOk result (now ≡ folded_at k row runs) → OnOk result (now ≡ fold_at drawn found row runs)
folds (Ok x) drawn found k row runs now is put = put ∙ is
folds (Err e) drawn found k row runs now is put = tt

pub fold_within : {E : Type 0} (result : Result ⊤ E) (limit k : ℕ) (row : RowRank) (runs now : List RunPlace) → row.number < limit → All (λ (run : RunPlace). run.last < limit) runs
    → OnOk result (now ≡ folded_at k row runs) → OnOk result (All (λ (run : RunPlace). run.last < limit) now)
fold_within (Ok x) limit k row runs now h all put = subst (All (λ (run : RunPlace). run.last < limit)) (sym put) (folded_within limit k row runs h all)
fold_within (Err e) limit k row runs now h all put = tt

-- the row of the next rank is put to the runs
pub fold_more : (drawn : Drawn) (found : List RowFound) (runs next : List RunPlace) (rows : List RowRank) (k : ℕ) (d : RowRank) → k < length rows
    → next ≡ fold_at drawn found (get_or rows k d) runs → fold_onto drawn found next (drop (k + 1) rows) ≡ fold_onto drawn found runs (drop k rows)
fold_more drawn found runs next rows k d h is = rw (is, add-one, drop-cons rows k d h) refl

-- no rank is left
pub fold_end : (drawn : Drawn) (found : List RowFound) (runs : List RunPlace) (rows : List RowRank) (k : ℕ) → length rows ≤ k → runs ≡ fold_onto drawn found runs (drop k rows)
fold_end drawn found runs [] zero h = refl
fold_end drawn found runs [] (suc k) h = refl
fold_end drawn found runs (row ∷ rows) zero h = absurd (omega arith)
fold_end drawn found runs (row ∷ rows) (suc k) h = fold_end drawn found runs rows k (omega arith)

-- ---- one row goes on with another

some_at : {A : Type 0} (xs : List A) (k : ℕ) (x d : A) → k < length xs → x ≡ get_or xs k d → slice_get xs k ≡ Some x
some_at [] k x d h e = absurd (omega arith)
some_at (y ∷ xs) zero x d h e = ap Some (sym e)
some_at (y ∷ xs) (suc k) x d h e = some_at xs k x d (omega arith) e

pub rows_meet : (drawn : Drawn) (found : List RowFound) (k n : ℕ) (row next : Row) (f g d e : RowFound) → slice_get drawn.rows k ≡ Some row → slice_get drawn.rows n ≡ Some next
    → k < length found → n < length found → f ≡ get_or found k d → g ≡ get_or found n e
    → goes_on drawn (record { number = 0; row = row; found = f }) (record { number = 0; row = next; found = g }) ≡ goes_on_at drawn found k n
rows_meet drawn found k n row next f g d e one other inside within is also =
    sym (ap (λ o. both_meet (goes_on drawn) o (slice_get (numbered_rows drawn found) n)) (told_at drawn found k row f one (some_at found k f d inside is))
    ∙ ap (both_meet (goes_on drawn) (Some (record { number = k; row = row; found = f }))) (told_at drawn found n next g other (some_at found n g e within also)))

-- ---- runs of rows

-- the first row and the last row of a run are rows of their numbers
pub record HasRows (drawn : Drawn) (found : List RowFound) (run : RowRun) : Type 0 where
  pub first : IsOf drawn.rows found run.first
  pub last : IsOf drawn.rows found run.last

module _ (drawn : Drawn) (found : List RowFound) where
  each_folded : (row : NumberedRow) (runs : List RowRun) → IsOf drawn.rows found row → Each (HasRows drawn found) runs → Each (HasRows drawn found) (folded drawn row runs)
  each_folded row [] is each = (record { first = is; last = is }, tt)
  each_folded row (run ∷ runs) is each = by_test (goes_on drawn run.last row) (each_folded row runs is each.1)
    where
      by_test : (b : Bool) → Each (HasRows drawn found) (folded drawn row runs)
          → Each (HasRows drawn found) (if b then record { first = run.first; last = row } ∷ runs else run ∷ folded drawn row runs)
      by_test true rest = (record { first = each.0.first; last = is }, each.1)
      by_test false rest = (each.0, rest)

  each_onto : (runs : List RowRun) (rows : List NumberedRow) → Each (HasRows drawn found) runs → Each (IsOf drawn.rows found) rows → Each (HasRows drawn found) (folded_onto drawn runs rows)
  each_onto runs [] before each = before
  each_onto runs (row ∷ rows) before each = each_onto (folded drawn row runs) rows (each_folded row runs each.0 before) each.1

  -- all runs are so
  pub each_run : Each (HasRows drawn found) (runs_of drawn (numbered_rows drawn found))
  each_run = each_onto [] (numbered_rows drawn found) tt (each_numbered drawn found)

  -- the places of runs with one more row
  fold_one : (row : NumberedRow) (runs : List RowRun) → IsOf drawn.rows found row → Each (HasRows drawn found) runs
      → fold_at drawn found (place_of row) (map run_place runs) ≡ map run_place (folded drawn row runs)
  fold_one row [] is each = refl
  fold_one row (run ∷ runs) is each =
      ap (λ b. if b then record { first = place_of run.first; last = row.number } ∷ map run_place runs else run_place run ∷ fold_at drawn found (place_of row) (map run_place runs)) same
      ∙ by_test (goes_on drawn run.last row) (fold_one row runs is each.1)
    where
      same : goes_on_at drawn found run.last.number row.number ≡ goes_on drawn run.last row
      same = ap (λ o. both_meet (goes_on drawn) o (slice_get (numbered_rows drawn found) row.number)) (told_is drawn found run.last each.0.last)
          ∙ ap (both_meet (goes_on drawn) (Some run.last)) (told_is drawn found row is)

      by_test : (b : Bool) → fold_at drawn found (place_of row) (map run_place runs) ≡ map run_place (folded drawn row runs)
          → ◌≡◌ {A = List RunPlace} (if b then record { first = place_of run.first; last = row.number } ∷ map run_place runs else run_place run ∷ fold_at drawn found (place_of row) (map run_place runs))
          (map run_place (if b then record { first = run.first; last = row } ∷ runs else run ∷ folded drawn row runs))
      by_test true rest = refl
      by_test false rest = ap (λ l. run_place run ∷ l) rest

  fold_rows : (runs : List RowRun) (rows : List NumberedRow) → Each (HasRows drawn found) runs → Each (IsOf drawn.rows found) rows
      → fold_onto drawn found (map run_place runs) (map place_of rows) ≡ map run_place (folded_onto drawn runs rows)
  fold_rows runs [] before each = refl
  fold_rows runs (row ∷ rows) before each =
      ap (λ places. fold_onto drawn found places (map place_of rows)) (fold_one row runs each.0 before) ∙ fold_rows (folded drawn row runs) rows (each_folded row runs each.0 before) each.1

  -- the places of all runs
  pub runs_are : (ranks : List RowRank) → ranks ≡ map place_of (numbered_rows drawn found) → fold_onto drawn found [] ranks ≡ map run_place (runs_of drawn (numbered_rows drawn found))
  runs_are ranks is = ap (fold_onto drawn found []) is ∙ fold_rows [] (numbered_rows drawn found) tt (each_numbered drawn found)
