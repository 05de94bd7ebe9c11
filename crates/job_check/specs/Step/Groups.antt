-- The proof lines before a finding or a bound, and what a check of them says.
use Rattle.std.specs.Prelude.{◌≡◌, ◌+◌, ◌↔◌, ℕ, Bool, IsTrue, List, [], ◌∷◌, ◌++◌, length, Option, Some, None, Result, Ok, Err}
use Rattle.event_graph.specs.Network.{Net}
use Rattle.event_graph.specs.Proof.{Case, IsProof, ProofGoal, ProofLine}
use Rattle.event_graph.specs.Proof as proofs
use Rattle.cert_checker.specs.declared.goal.Goal.{Goal}
use Rattle.cert_checker.specs.Checking.{goal_view}
use Rattle.slack_report.specs.Entry.{Entry, proof}
use Rattle.right_report.specs.Right.ReportState.{ReportState, at_bound, at_event, at_finding}
use Rattle.drawn_networks.specs.Drawn.{Drawn}
use Rattle.right_report.specs.Wrong.{Takes}
use Rattle.job_check.specs.Step.Stages.{IsNextBound, IsCurrentRow, next_in, current_in}
use Rattle.job_check.specs.declared.proof_group.ProofGroup.{ProofGroup}
use Rattle.job_check.specs.declared.proof_group.ProofGroup.TheVariants as groups

-- the proof lines that some lines begin with
abbrev pub proof_front : List Entry → List ProofLine
proof_front [] = []
proof_front (proof line ∷ rest) = line ∷ proof_front rest
proof_front (line ∷ rest) = []

-- the state of a report after the events and then some proof lines
abbrev pub found_behind : ℕ → List ProofLine → ReportState
found_behind number [] = at_event number []
found_behind number (line ∷ lines) = at_finding (line ∷ lines)

-- the state of a report after some proof lines
abbrev pub behind_lines : Drawn → ProofGroup → List ProofLine → ReportState
behind_lines drawn (groups.Finding number) lines = found_behind number lines
behind_lines drawn (groups.Bound current coming) lines = at_bound (current_in drawn current) (next_in coming) lines

abbrev pub IsGroup : Drawn → ProofGroup → Type 0
IsGroup drawn (groups.Finding number) = number ≡ length drawn.names
IsGroup drawn (groups.Bound current coming) = IsCurrentRow drawn current × IsNextBound coming

-- reading lines for one goal is reading them for the other
abbrev pub ReadsAlike : Net → ProofGoal → ProofGoal → Type 0
ReadsAlike net goal other = (cases left : List Case) (lines : List ProofLine) → proofs.ProofLeaves net goal cases lines left ↔ proofs.ProofLeaves net other cases lines left

-- the goal with which a checker begins stands for the goal of the proof lines, if there is one
abbrev pub StandsForGoal : Net → Option ProofGoal → Option Goal → Type 0
StandsForGoal net None None = Unit {0}
StandsForGoal net None (Some begun) = ⊥
StandsForGoal net (Some goal) None = ⊥
StandsForGoal net (Some goal) (Some begun) = ReadsAlike net goal (goal_view begun)

-- all lines are taken, and `whole` says whether they are a whole proof
pub record AreTaken (net : Net) (goal : ProofGoal) (lines : List ProofLine) (whole : Bool) : Type 0 where
  pub cases : List Case
  pub reads : proofs.ProofLeaves net goal ([] ∷ []) lines cases
  pub is_whole : IsTrue whole ↔ (cases ≡ [])

-- a line, with its number among all lines, is not taken after the lines before it, which are taken
pub record IsOneRefused (net : Net) (goal : ProofGoal) (lines : List ProofLine) (first number : ℕ) : Type 0 where
  pub before : List ProofLine
  pub refused : ProofLine
  pub more : List ProofLine
  pub parts : lines ≡ before ++ refused ∷ more
  pub is_number : number ≡ first + length before
  pub taken : Takes net goal before
  pub fails : Takes net goal (before ++ refused ∷ []) → ⊥

abbrev pub ChecksLines : Net → ProofGoal → List ProofLine → ℕ → Result Bool ℕ → Type 0
ChecksLines net goal lines first (Ok whole) = AreTaken net goal lines whole
ChecksLines net goal lines first (Err number) = IsOneRefused net goal lines first number

-- the lines are checked for a goal; if there is none, they are ignored
abbrev pub ChecksFor : Net → Option ProofGoal → List ProofLine → ℕ → Result Bool ℕ → Type 0
ChecksFor net None lines first result = (whole : Bool) × (result ≡ Ok whole)
ChecksFor net (Some goal) lines first result = ChecksLines net goal lines first result

-- if there is a goal, `whole` says whether the lines prove it
abbrev pub IsWholeFor : Net → Option ProofGoal → List ProofLine → Bool → Type 0
IsWholeFor net None lines whole = Unit {0}
IsWholeFor net (Some goal) lines whole = IsTrue whole ↔ IsProof net goal lines
