-- A row and a whole text, part by part.
use Rattle.std.proofs.Common.{◌≡◌, ◌≤◌, ℕ, true, List, length, Some, slice_get, refl, sym, subst, ◌∙◌}
use Rattle.std.specs.Prelude.{IfOk, Result, Ok, Err}
use Rattle.std.proofs.lemmas.List.{take_all}
use Rattle.std.proofs.lemmas.Option.{same_Some}
use Rattle.event_graph.specs.Network.{Net}
use Rattle.slack_report.specs.declared.words.Which.TheVariants.{Max, Min}
use Rattle.slack_report.specs.Entry as line
use Rattle.slack_report.specs.Text.{entry_text}
use Rattle.drawn_networks.specs.Drawn.{Drawn, name_of}
use Rattle.drawn_networks.specs.declared.row.Row.{Row}
use Rattle.job_settle.specs.declared.finding.Finding.{Finding}
use Rattle.job_settle.specs.declared.bound.SettledBound.{SettledBound}
use Rattle.job_settle.specs.declared.row.RowFound.{RowFound}
use Rattle.job_settle.specs.Answers.{AreFound, IsBound, IsFinding, IsPastOf, IsRowFound}
use Rattle.job_confirm.specs.Confirm.{IsSettledTo}
use Rattle.job_settle.specs.Text.{behind_text, bound_text, ending_of, finding_text, front_text, judged_text, row_text}
use Rattle.job_confirm.specs.declared.check_stop.CheckStop.{CheckStop}
use Rattle.job_confirm.specs.Step.{IsPieceAt}
use Rattle.job_confirm.proofs.Passing.{behind_then}
use Rattle.job_confirm.proofs.Turns.{some_turns}

-- two rows with one number are the same row
pub row_same : (rows : List Row) (number : ℕ) (at row : Row) → slice_get rows number ≡ Some at → slice_get rows number ≡ Some row → at ≡ row
row_same rows number at row is other = same_Some at row (sym is ∙ other)

pub row_is_found : (net : Net) (rows : List Row) (number : ℕ) (at : Row) (found : RowFound) → slice_get rows number ≡ Some at → IsBound true net Max at found.greatest
    → IsBound true net Min at found.least → IsPastOf net at at.kind found → (row : Row) → slice_get rows number ≡ Some row → IsRowFound true net row found
row_is_found net rows number at found is greatest least past row other =
    subst (λ (r : Row). IsRowFound true net r found) (row_same rows number at row is other) (record { greatest = greatest; least = least; past = past })

module _ (drawn : Drawn) (text : List ℕ) where
  -- the parts of a row stand one after another
  pub behind_parts : (number place line_end max_end min_end behind : ℕ) (at : Row) (found : RowFound) → slice_get drawn.rows number ≡ Some at
      → IsPieceAt text place (entry_text (line.row number at.kind (name_of drawn at.from) (name_of drawn at.to))) line_end
      → IsPieceAt text line_end (bound_text true Max found.greatest) max_end → IsPieceAt text max_end (bound_text true Min found.least) min_end
      → IsPieceAt text min_end (judged_text at.kind found) behind
      → (row : Row) → slice_get drawn.rows number ≡ Some row → IsPieceAt text place (row_text drawn true number row found) behind
  behind_parts number place line_end max_end min_end behind at found is a b c d row other =
      subst (λ (r : Row). IsPieceAt text place (row_text drawn true number r found) behind) (row_same drawn.rows number at row is other)
      (behind_then text place line_end behind _ _ a (behind_then text line_end max_end behind _ _ b (behind_then text max_end min_end behind _ _ c d)))

  -- the parts of a whole text stand one after another
  pub settled_text : (finding : Finding) (found : List RowFound) (front_end finding_end rows_end behind : ℕ) → IsFinding true drawn.net finding
      → AreFound true drawn.net drawn.rows finding found → IsPieceAt text 0 (front_text drawn) front_end → IsPieceAt text front_end (finding_text true finding) finding_end
      → IsPieceAt text finding_end (behind_text drawn true finding found) rows_end
      → IsPieceAt text rows_end (entry_text (line.ending (ending_of drawn.rows finding found))) behind → length text ≤ behind → IsSettledTo drawn text (ending_of drawn.rows finding found)
  settled_text finding found front_end finding_end rows_end behind is_finding are_found a b c d whole =
      let all = behind_then text 0 front_end behind _ _ a (behind_then text front_end finding_end behind _ _ b (behind_then text finding_end rows_end behind _ _ c d)) in
      let turns = some_turns finding found in (
        turns.0,
        record {
          finding = finding;
          found = found;
          is_finding = is_finding;
          are_found = are_found;
          within = turns.1;
          is_text = sym (take_all behind text whole) ∙ all.same;
          is_answer = refl;
        },
      )

-- ---- a row whose last part was read

module _ {A : Type 0} (found_of : A → RowFound) (place_of : A → ℕ) (drawn : Drawn) (text : List ℕ) (number : ℕ) (at : Row) (greatest least : SettledBound) (is : slice_get drawn.rows number ≡ Some at) where
  -- what was found of the row is right
  pub row_found : (net : Net) (r : Result A CheckStop) → net ≡ drawn.net → IsBound true net Max at greatest → IsBound true net Min at least
      → IfOk r (λ read. (found_of read).greatest ≡ greatest) → IfOk r (λ read. (found_of read).least ≡ least) → IfOk r (λ read. IsPastOf net at at.kind (found_of read))
      → IfOk r (λ read. (row : Row) → slice_get drawn.rows number ≡ Some row → IsRowFound true drawn.net row (found_of read))
  row_found net (Err stop) same is_greatest is_least of_greatest of_least past = tt
  row_found net (Ok read) same is_greatest is_least of_greatest of_least past =
      subst (λ (n : Net). (row : Row) → slice_get drawn.rows number ≡ Some row → IsRowFound true n row (found_of read)) same
      (row_is_found net drawn.rows number at (found_of read) is (subst (IsBound true net Max at) (sym of_greatest) is_greatest) (subst (IsBound true net Min at) (sym of_least) is_least) past)

  -- its parts stand one after another
  pub row_behind : (place line_end max_end min_end : ℕ) (r : Result A CheckStop) → IsPieceAt text place (entry_text (line.row number at.kind (name_of drawn at.from) (name_of drawn at.to))) line_end
      → IsPieceAt text line_end (bound_text true Max greatest) max_end → IsPieceAt text max_end (bound_text true Min least) min_end
      → IfOk r (λ read. (found_of read).greatest ≡ greatest) → IfOk r (λ read. (found_of read).least ≡ least)
      → IfOk r (λ read. IsPieceAt text min_end (judged_text at.kind (found_of read)) (place_of read))
      → IfOk r (λ read. (row : Row) → slice_get drawn.rows number ≡ Some row → IsPieceAt text place (row_text drawn true number row (found_of read)) (place_of read))
  row_behind place line_end max_end min_end (Err stop) a b c of_greatest of_least d = tt
  row_behind place line_end max_end min_end (Ok read) a b c of_greatest of_least d =
      behind_parts drawn text number place line_end max_end min_end (place_of read) at (found_of read) is a
      (subst (λ (bound : SettledBound). IsPieceAt text line_end (bound_text true Max bound) max_end) (sym of_greatest) b)
      (subst (λ (bound : SettledBound). IsPieceAt text max_end (bound_text true Min bound) min_end) (sym of_least) c) d
