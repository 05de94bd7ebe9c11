-- Reports whose finding and bounds are shown by lines of proofs, either printed before them or left out.
use Rattle.std.specs.Prelude.{◌≡◌, ◌<◌, ◌≤◌, ℕ, ℤ, neg_ℤ, List, [], Some, None, slice_get}
use Rattle.event_graph.specs.Network.{Net}
use Rattle.event_graph.specs.Proof.{IsProof, IsStoppedProof, Nothing, ProofGoal, ProofLine, closing_lines}
use Rattle.event_graph.specs.Proof.{Bound as BoundGoal}
use Rattle.requirements.specs.declared.bound.Bound.{Bound}
use Rattle.requirements.specs.declared.bound.Bound.TheVariants as bounds
use Rattle.requirements.specs.declared.consistency.Consistency.{Consistency}
use Rattle.requirements.specs.declared.consistency.Consistency.TheVariants as findings
use Rattle.slack_report.specs.Entry.{Entry, budget}
use Rattle.drawn_networks.specs.Drawn.{Drawn}
use Rattle.drawn_networks.specs.declared.row.Row.{Row}
use Rattle.right_report.specs.Right.ReportState.{NextBound, at_heading, at_last, greatest, least_by}
use Rattle.right_report.specs.Right.LineClaims.{right}
use Rattle.right_report.specs.Right.Following.{LineClaims, LinesLead}

-- What has to be shown of a number as a bound of a row: no separation of the pair exceeds the number. For a least separation: no separation of
-- the reversed pair exceeds minus the number.
abbrev pub goal_of : Row → NextBound → ℤ → ProofGoal
goal_of r greatest value = BoundGoal r.from r.to value
goal_of r (least_by most) value = BoundGoal r.to r.from (neg_ℤ value)

-- the lines are a proof that closes no more cases than the budget
abbrev pub IsProofWithin : Net → ProofGoal → ℕ → List ProofLine → Type 0
IsProofWithin net goal most lines = IsProof net goal lines × (closing_lines lines ≤ most)

-- the lines are a stopped proof; the cases that it closes and the one that times close after it are no more than the budget
abbrev pub IsStoppedWithin : Net → ProofGoal → ℕ → List ProofLine → Type 0
IsStoppedWithin net goal most lines = (count : ℕ) × (count < most) × IsStoppedProof net goal lines count

-- An inconsistent finding has a proof within the budget, and a consistent one a stopped proof within the budget. An unsettled one has a stopped
-- proof that used the budget up.
abbrev pub ShowsFinding : Net → ℕ → List ProofLine → Consistency → Type 0
ShowsFinding net most lines findings.Consistent = IsStoppedWithin net Nothing most lines
ShowsFinding net most lines findings.Inconsistent = IsProofWithin net Nothing most lines
ShowsFinding net most lines findings.Open = IsStoppedProof net Nothing lines most

-- A closed bound has a proof within the budget, and an unbounded one a stopped proof within the budget. A bound that was left open has a stopped
-- proof of the attained separation that used the budget up; it has no lines if nothing was attained.
abbrev pub ShowsBound : Net → ℕ → List ProofLine → Row → NextBound → Bound → Type 0
ShowsBound net most lines r coming (bounds.Closed value) = IsProofWithin net (goal_of r coming value) most lines
ShowsBound net most lines r coming bounds.Unbounded = (value : ℤ) × IsStoppedWithin net (goal_of r coming value) most lines
ShowsBound net most lines r coming (bounds.Within limit None) = lines ≡ []
ShowsBound net most lines r coming (bounds.Within limit (Some found)) = IsStoppedProof net (goal_of r coming found) lines most

-- the claims of a right report that prints the lines of its proofs
abbrev pub shown : Net → ℕ → LineClaims
shown net most = record (right net) {
  finding = λ lines word. (right net).finding lines word × ShowsFinding net most lines word;
  bound = λ found r coming lines value. (right net).bound found r coming lines value × ShowsBound net most lines r coming value;
}

-- the claims of a right report that prints no lines of proofs; there are such lines nevertheless
abbrev pub bare : Net → ℕ → LineClaims
bare net most = record (right net) {
  finding = λ lines word. (right net).finding lines word × (lines ≡ []) × ((hidden : List ProofLine) × ShowsFinding net most hidden word);
  bound = λ found r coming lines value. (right net).bound found r coming lines value × (lines ≡ []) × ((hidden : List ProofLine) × ShowsBound net most hidden r coming value);
}

-- the second line says the budget
abbrev pub HasBudget : ℕ → List Entry → Type 0
HasBudget most lines = slice_get lines 1 ≡ Some (budget most)

-- a whole right report with this budget and its proofs
pub record IsShownReport (drawn : Drawn) (most : ℕ) (lines : List Entry) : Type 0 where
  pub reads : LinesLead (shown drawn.net most) drawn at_heading lines at_last
  pub has_budget : HasBudget most lines

-- a whole right report with this budget and without its proofs
pub record IsBareReport (drawn : Drawn) (most : ℕ) (lines : List Entry) : Type 0 where
  pub reads : LinesLead (bare drawn.net most) drawn at_heading lines at_last
  pub has_budget : HasBudget most lines
