-- The first line of a report that a check calls wrong. The bound or the finding after the lines of a proof decides what they have to show. So a
-- line is judged together with the lines after it.
use Rattle.std.specs.Prelude.{◌≡◌, ◌⊎◌, ◌+◌, ℕ, List, [], ◌∷◌, ◌++◌, Option, Some, None, IsSomeAnd}
use Rattle.event_graph.specs.Network.{Net}
use Rattle.event_graph.specs.Proof.{Case, Nothing, ProofGoal, ProofLine}
use Rattle.event_graph.specs.Proof as proofs
use Rattle.requirements.specs.declared.bound.Bound.TheVariants as bounds
use Rattle.requirements.specs.declared.consistency.Consistency.TheVariants as findings
use Rattle.slack_report.specs.Entry.{Entry, bound, finding, proof}
use Rattle.drawn_networks.specs.Drawn.{Drawn}
use Rattle.right_report.specs.Right.ReportState.{ReportState, at_bound, at_event, at_finding, at_heading, at_last}
use Rattle.right_report.specs.Right.Following.{MayFollow}
use Rattle.right_report.specs.Checked.{checked}
use Rattle.right_report.specs.Shown.{goal_of}

-- What the lines of a proof so far have to show, if this line comes after them. Only a closed bound and an inconsistent finding need a proof;
-- before any other line the lines of a proof are ignored.
abbrev pub goal_by : ReportState → Entry → Option ProofGoal
goal_by (at_bound current coming lines) (bound word (bounds.Closed value)) = Some (goal_of current.row coming value)
goal_by (at_bound current coming lines) other = None
goal_by (at_finding lines) (finding findings.Inconsistent) = Some Nothing
goal_by (at_finding lines) other = None
goal_by (at_event number []) (finding findings.Inconsistent) = Some Nothing
goal_by at other = None

-- what the lines of a proof so far have to show, according to the next line that is not a line of a proof
abbrev pub goal_ahead : ReportState → List Entry → Option ProofGoal
goal_ahead at [] = None
goal_ahead at (proof line ∷ lines) = goal_ahead at lines
goal_ahead at (line ∷ lines) = goal_by at line

-- the lines of a proof before a state
abbrev pub proof_so_far : ReportState → List ProofLine
proof_so_far (at_bound current coming lines) = lines
proof_so_far (at_finding lines) = lines
proof_so_far at = []

-- the reading of a proof takes each of the lines
abbrev pub Takes : Net → ProofGoal → List ProofLine → Type 0
Takes net goal lines = (cases : List Case) × proofs.ProofLeaves net goal ([] ∷ []) lines cases

-- the lines to come need a proof, and reading it does not accept this line after the lines before it
abbrev pub IsLineRefused : Net → ReportState → Entry → List Entry → Type 0
IsLineRefused net at (proof line) rest = IsSomeAnd (goal_ahead at rest) (λ goal. Takes net goal (proof_so_far at ++ line ∷ []) → ⊥)
IsLineRefused net at other rest = ⊥

-- a line is wrong before these lines: the check does not let it follow, or it is a line of a proof that reading refuses
abbrev pub IsWrong : Drawn → ReportState → Entry → List Entry → Type 0
IsWrong drawn at line rest = ((next : ReportState) → MayFollow (checked drawn.net) drawn at line next → ⊥) ⊎ IsLineRefused drawn.net at line rest

-- a line is fine before these lines, and leads to another state
abbrev pub IsFine : Drawn → ReportState → Entry → List Entry → ReportState → Type 0
IsFine drawn at line rest next = MayFollow (checked drawn.net) drawn at line next × (IsLineRefused drawn.net at line rest → ⊥)

-- The line with this number, counted from 0, is the first wrong one. If the lines end before the report is whole, the missing line is wrong.
abbrev pub IsFirstWrong : Drawn → ReportState → List Entry → ℕ → Type 0
IsFirstWrong drawn at [] number = (at ≡ at_last → ⊥) × (number ≡ 0)
IsFirstWrong drawn at (line ∷ lines) number =
    (IsWrong drawn at line lines × (number ≡ 0))
    ⊎ ((next : ReportState) × (later : ℕ) × IsFine drawn at line lines next × IsFirstWrong drawn next lines later × (number ≡ later + 1))

-- the line with this number, counted from 0, is the first wrong line of a report
abbrev pub IsFirstWrongIn : Drawn → List Entry → ℕ → Type 0
IsFirstWrongIn drawn lines number = IsFirstWrong drawn at_heading lines number
