-- The lines of the proofs of a text are no more than some number of turns.
use Rattle.std.proofs.Common.{◌+◌, ◌≤◌, ℕ, List, [], ◌∷◌, All, arith}
use Rattle.std.specs.List.{sum_by}
use Rattle.std.proofs.lemmas.List.Elements.{All-cons, All-nil}
use Rattle.std.proofs.lemmas.List.Sums.{sum_by-cons}
use Rattle.job_settle.specs.declared.finding.Finding.{Finding}
use Rattle.job_settle.specs.declared.row.RowFound.{RowFound}
use Rattle.job_settle.specs.Answers.{HaveLinesWithin, IsRowWithin, finding_lines, lines_in_row}

-- each row has at most as many lines as all rows together
rows_within : (turns : ℕ) (found : List RowFound) → sum_by lines_in_row found ≤ turns → All (IsRowWithin turns) found
rows_within turns [] most = All-nil (IsRowWithin turns)
rows_within turns (row ∷ rows) most =
    let all : lines_in_row row + sum_by lines_in_row rows ≤ turns = rw (sum_by-cons lines_in_row row rows) at most in
    All-cons (IsRowWithin turns) row rows (omega (arith, all), omega (arith, all)) (rows_within turns rows (omega (arith, all)))

-- each finding and each list of rows has some number of turns: as many as there are lines
pub some_turns : (finding : Finding) (found : List RowFound) → (turns : ℕ) × HaveLinesWithin turns finding found
some_turns finding found =
    let lines : ℕ = finding_lines finding + sum_by lines_in_row found in (
      lines,
      record {
        of_finding = omega arith;
        of_rows = rows_within lines found (omega arith);
        of_run = omega arith;
      },
    )
