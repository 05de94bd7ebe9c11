-- The ranks of rows, and how many rows are of a rank.
use Rattle.std.proofs.Common.{◌≡◌, ◌<◌, ◌+◌, ℕ, zero, suc, List, [], ◌∷◌, ◌++◌, length, map, take, get_or, Some, slice_get, refl, sym, ap, ◌∙◌, add-one, arith}
use Rattle.std.specs.Prelude.{◌==◌, if◌then◌else◌}
use Rattle.std.proofs.lemmas.List.{length-map, map-append}
use Rattle.std.proofs.lemmas.List.Sums.{sum_by-cons}
use Rattle.std.proofs.lemmas.Option.{slice_get_within}
use Rattle.itv_base.specs.declared.row_kind.RowKind.{RowKind}
use Rattle.itv_base.specs.declared.row_kind.RowKind.TheVariants as kinds
use Rattle.drawn_networks.specs.Drawn.{Drawn}
use Rattle.drawn_networks.specs.declared.row.Row.{Row}
use Rattle.explanations.specs.declared.row.RowFound.{RowFound}
use Rattle.job_brief.specs.declared.row_counts.RowCounts.{RowCounts}
use Rattle.job_brief.specs.declared.row_rank.RowRank.{RowRank}
use Rattle.job_brief.specs.Rows.{NumberedRow, rank_of}
use Rattle.job_brief.specs.Step.{counts_words, judged_in, numbered_rows, place_by, place_count, place_of}
use Rattle.job_brief.specs.Text.{count_words, rank_count}
use Rattle.job_brief.proofs.Numbered.{Each, IsOf, each_numbered, take_told}

-- the ranks with one more row
pub ranks_more : (drawn : Drawn) (found : List RowFound) (k : ℕ) (row : Row) (of_row d : RowFound) (place : RowRank) (old now : List RowRank) → slice_get drawn.rows k ≡ Some row → k < length found
    → of_row ≡ get_or found k d → place ≡ place_of (record { number = k; row = row; found = of_row }) → old ≡ map place_of (take k (numbered_rows drawn found)) → now ≡ old ++ place ∷ []
    → now ≡ map place_of (take (k + 1) (numbered_rows drawn found))
ranks_more drawn found k row of_row d place old now e h is is_place before put =
    let numbered : NumberedRow = record { number = k; row = row; found = of_row } in
    let more : take (suc k) (numbered_rows drawn found) ≡ take k (numbered_rows drawn found) ++ numbered ∷ [] = take_told 0 k drawn.rows found k row of_row d e h is (omega arith) in
    put ∙ ap (λ p. old ++ p ∷ []) is_place ∙ ap (λ l. l ++ place_of numbered ∷ []) before ∙ sym (map-append place_of (take k (numbered_rows drawn found)) (numbered ∷ []))
    ∙ ap (map place_of) (sym more) ∙ rw add-one refl

-- the judgement of a row gives its rank
pub place_is : (number : ℕ) (row : Row) (found : RowFound) → place_by number (judged_in row.kind found) ≡ place_of (record { number = number; row = row; found = found })
place_is number row found = go row.kind refl
  where
    go : (kind : RowKind) → row.kind ≡ kind → place_by number (judged_in row.kind found) ≡ place_of (record { number = number; row = row; found = found })
    go kinds.Ask e = rw e refl
    go (kinds.Req range) e = rw e refl

-- something is found of the row of each rank
rank_of_row : (drawn : Drawn) (found : List RowFound) (rows : List NumberedRow) (k : ℕ) (d : RowRank) → Each (IsOf drawn.rows found) rows → k < length (map place_of rows)
    → (get_or (map place_of rows) k d).number < length found
rank_of_row drawn found [] k d each h = absurd (omega arith)
rank_of_row drawn found (row ∷ rows) zero d each h = slice_get_within found row.number row.found each.0.is_found
rank_of_row drawn found (row ∷ rows) (suc k) d each h = rank_of_row drawn found rows k d each.1 (omega arith)

pub rank_within : (drawn : Drawn) (found : List RowFound) (ranks : List RowRank) (k : ℕ) (d : RowRank) → ranks ≡ map place_of (numbered_rows drawn found) → k < length ranks
    → (get_or ranks k d).number < length found
rank_within drawn found ranks k d is h = rw is (rank_of_row drawn found (numbered_rows drawn found) k d (each_numbered drawn found) (rw is at h))

-- ---- how many rows there are

count_cons : (rank : ℕ) (numbered : NumberedRow) (rows : List NumberedRow) → rank_count rank (numbered ∷ rows) ≡ (if rank_of numbered == rank then 1 else 0) + rank_count rank rows
count_cons rank numbered rows = sum_by-cons (λ (t : NumberedRow). if rank_of t == rank then 1 else 0) numbered rows

count_places : (rank : ℕ) (rows : List NumberedRow) → place_count rank (map place_of rows) ≡ rank_count rank rows
count_places rank [] = refl
count_places rank (numbered ∷ rows) =
    sum_by-cons (λ (p : RowRank). if p.rank == rank then 1 else 0) (place_of numbered) (map place_of rows)
    ∙ ap (λ n. (if rank_of numbered == rank then 1 else 0) + n) (count_places rank rows) ∙ sym (count_cons rank numbered rows)

-- the counts of the rows are the counts of their ranks
pub counts_are : (rows : List NumberedRow) (ranks : List RowRank) (counts : RowCounts) → ranks ≡ map place_of rows → counts.rows ≡ length ranks → counts.pass ≡ place_count 2 ranks
    → counts.fail ≡ place_count 0 ranks → counts.undecided ≡ place_count 1 ranks → counts_words counts ≡ count_words rows
counts_are rows ranks counts is all pass fail undecided =
    rw (
      all ∙ ap length is ∙ length-map rows place_of,
      pass ∙ ap (place_count 2) is ∙ count_places 2 rows,
      fail ∙ ap (place_count 0) is ∙ count_places 0 rows,
      undecided ∙ ap (place_count 1) is ∙ count_places 1 rows,
    ) refl
