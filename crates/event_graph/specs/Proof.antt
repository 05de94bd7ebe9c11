-- Proofs by cases, as they are read from their lines. A proof shows that no separation of a pair exceeds a value, or that no times satisfy.
use Rattle.std.specs.Prelude.{◌≡◌, ◌+◌, ◌≤◌, ℕ, zero, suc, ℤ, pos, ◌+ℤ◌, ◌≤ℤ◌, ◌<ℤ◌, ◌⊎◌, List, [], ◌∷◌, ◌++◌, length, All, Contains, Option, Some, None, IsSomeAnd, slice_get}
use Rattle.itv_base.specs.declared.names.EdgeName.{EdgeName}
use Rattle.itv_base.specs.declared.names.EventId.{EventId}
use Rattle.itv_base.specs.declared.names.RuleKind.{RuleKind}
use Rattle.itv_base.specs.declared.names.RuleKind.TheVariants.{Lin, Late, Early}
use Rattle.event_graph.specs.declared.edge.Edge.{Edge}
use Rattle.event_graph.specs.Edges.{IsAlways, choice_side, edge}
use Rattle.event_graph.specs.Network.{Constraint, Net}

-- a line splits a case by the causes of a constraint, or closes it by a path or by a loop
pub data ProofLine : Type 0 where
  Split : ℕ → ProofLine
  Path : List EdgeName → ProofLine
  Loop : List EdgeName → ProofLine

-- what is to be shown: that no satisfying separation of a pair exceeds a value, or that no times satisfy
pub data ProofGoal : Type 0 where
  Bound : EventId → EventId → ℤ → ProofGoal
  Nothing : ProofGoal

-- a constraint and one of its causes, given by their numbers
pub record Choice : Type 0 where
  pub constraint : ℕ
  pub cause : ℕ

-- the causes chosen in a case, the latest choice first
abbrev pub Case : Type 0
Case = List Choice

-- a constraint of this kind has causes to choose from
abbrev pub HasChoice : RuleKind → Type 0
HasChoice Lin = ⊥
HasChoice Late = Unit {0}
HasChoice Early = Unit {0}

-- the name is on the choice side of its constraint
abbrev pub IsOnChoiceSide : Net → EdgeName → Type 0
IsOnChoiceSide net name = IsSomeAnd (slice_get net.constraints name.constraint) (λ c. HasChoice c.kind × (name.side ≡ choice_side c.kind))

-- an edge may be used in a case if it is an always-edge, or if its cause is chosen and it is on the choice side
abbrev pub IsUsable : Net → Case → EdgeName → Type 0
IsUsable net chosen name =
    IsAlways net name
    ⊎ (Contains chosen (record { constraint = name.constraint; cause = name.cause }) × IsOnChoiceSide net name)

-- the named edges are there and lead one after another from an event to an event
abbrev pub IsWalk : Net → EventId → List EdgeName → EventId → Type 0
IsWalk net from [] to = from ≡ to
IsWalk net from (name ∷ names) to = IsSomeAnd (edge net name) (λ e. (e.from ≡ from) × IsWalk net e.to names to)

-- the weight of an edge, and 0 if there is none
abbrev pub weight_of : Option Edge → ℤ
weight_of None = pos 0
weight_of (Some e) = e.weight

-- the sum of the weights of the named edges
abbrev pub path_sum : Net → List EdgeName → ℤ
path_sum net [] = pos 0
path_sum net (name ∷ names) = weight_of (edge net name) +ℤ path_sum net names

-- a path of usable edges that shows the bound in a case
abbrev pub ClosesByPath : Net → ProofGoal → Case → List EdgeName → Type 0
ClosesByPath net (Bound from to value) chosen names =
    IsWalk net from names to × All (IsUsable net chosen) names × (path_sum net names ≤ℤ value) × (length names ≤ net.events)
ClosesByPath net Nothing chosen names = ⊥

-- a closed walk of usable edges with a negative sum
abbrev pub ClosesByLoop : Net → Case → List EdgeName → Type 0
ClosesByLoop net chosen names =
    ((event : EventId) × IsWalk net event names event) × All (IsUsable net chosen) names × (path_sum net names <ℤ pos 0) × (length names ≤ net.events)

-- the constraint is there and has causes to choose from, and no cause of it is chosen yet
abbrev pub MaySplit : Net → Case → ℕ → Type 0
MaySplit net chosen number =
    IsSomeAnd (slice_get net.constraints number) (λ c. HasChoice c.kind) × All (λ (choice : Choice). choice.constraint ≡ number → ⊥) chosen

-- the case with one more choice, for each of `count` causes of a constraint from the cause with a number on
abbrev pub cases_from : Case → ℕ → ℕ → ℕ → List Case
cases_from chosen number cause zero = []
cases_from chosen number cause (suc count) = ((record { constraint = number; cause = cause }) ∷ chosen) ∷ cases_from chosen number (cause + 1) count

abbrev pub count_causes : Option Constraint → ℕ
count_causes None = 0
count_causes (Some c) = length c.causes

-- the cases into which a case is split: one for each cause of the constraint, in order
abbrev pub cases_of : Net → Case → ℕ → List Case
cases_of net chosen number = cases_from chosen number 0 (count_causes (slice_get net.constraints number))

-- Reading lines turns a list of open cases into another. Each line closes the first open case, or replaces it by the cases of its split.
abbrev pub ProofLeaves : Net → ProofGoal → List Case → List ProofLine → List Case → Type 0
ProofLeaves net goal cases [] left = cases ≡ left
ProofLeaves net goal [] (line ∷ lines) left = ⊥
ProofLeaves net goal (chosen ∷ cases) (Split number ∷ lines) left = MaySplit net chosen number × ProofLeaves net goal (cases_of net chosen number ++ cases) lines left
ProofLeaves net goal (chosen ∷ cases) (Path names ∷ lines) left = ClosesByPath net goal chosen names × ProofLeaves net goal cases lines left
ProofLeaves net goal (chosen ∷ cases) (Loop names ∷ lines) left = ClosesByLoop net chosen names × ProofLeaves net goal cases lines left

-- how many of the lines close a case
abbrev pub closing_lines : List ProofLine → ℕ
closing_lines [] = 0
closing_lines (Split number ∷ lines) = closing_lines lines
closing_lines (Path names ∷ lines) = closing_lines lines + 1
closing_lines (Loop names ∷ lines) = closing_lines lines + 1

-- the lines are a proof: reading starts with the one case where nothing is chosen, and leaves no case open
abbrev pub IsProof : Net → ProofGoal → List ProofLine → Type 0
IsProof net goal lines = ProofLeaves net goal ([] ∷ []) lines []

-- the lines are a proof that was stopped: reading them leaves a case open, and `count` of the lines close a case
pub record IsStoppedProof (net : Net) (goal : ProofGoal) (lines : List ProofLine) (count : ℕ) : Type 0 where
  pub open_case : (chosen : Case) × (cases : List Case) × ProofLeaves net goal ([] ∷ []) lines (chosen ∷ cases)
  pub closed : closing_lines lines ≡ count
