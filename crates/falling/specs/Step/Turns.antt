-- What a solver knows between two turns.
use Rattle.std.specs.Prelude.{◌≡◌, ◌<◌, ◌⊎◌, ℕ, ℤ, ◌+ℤ◌, List, All, Option, Some, None, option_map, IsSome, IsSomeAnd, IsTrue, length, slice_get}
use Rattle.itv_base.specs.declared.names.EdgeName.{EdgeName}
use Rattle.itv_base.specs.declared.names.EventId.{EventId}
use Rattle.itv_base.specs.declared.names.RuleKind.{RuleKind}
use Rattle.itv_base.specs.declared.names.RuleKind.TheVariants.{Lin, Late, Early}
use Rattle.itv_base.specs.declared.names.Side.{Side}
use Rattle.itv_base.specs.declared.names.Side.TheVariants.{Lower, Upper}
use Rattle.event_graph.specs.declared.cause.Cause.{Cause}
use Rattle.event_graph.specs.Edges.{holds_always}
use Rattle.event_graph.specs.Network.{Constraint, IsNet, Net, cause_at}
use Rattle.event_graph.specs.Times.{time_of}
use Rattle.falling.specs.declared.line.FallLine.{FallLine}
use Rattle.falling.specs.declared.line.Reason.{Reason}
use Rattle.falling.specs.declared.line.Reason.TheVariants.{ByEdge, ByLatest}
use Rattle.falling.specs.Cap.{IsNearValue}
use Rattle.falling.specs.Derivation.{IsLineAllowed, IsLatestHigh}

-- a constraint may be looked at: it is there, and each event has a value to which an end can be added
pub record MayLook (net : Net) (values : List ℤ) (number : ℕ) : Type 0 where
  pub is_net : IsNet net
  pub there : number < length net.constraints
  pub count : length values ≡ net.events
  pub near : All IsNearValue values

-- no line with this reason is allowed
abbrev pub IsTried : Net → List ℤ → Reason → Type 0
IsTried net values reason = (event : EventId) (value : ℤ) → IsLineAllowed net values (record { event = event; value = value; reason = reason }) → ⊥

-- no edge of a constraint on a side allows a line
abbrev pub IsSideTried : Net → List ℤ → ℕ → Side → Type 0
IsSideTried net values number side = (name : EdgeName) → name.constraint ≡ number → name.side ≡ side → IsTried net values (ByEdge name)

-- the number of the constraint of a reason
abbrev pub constraint_of : Reason → ℕ
constraint_of (ByEdge name) = name.constraint
constraint_of (ByLatest number) = number

-- no line of a constraint is allowed
abbrev pub IsConstraintTried : Net → List ℤ → ℕ → Type 0
IsConstraintTried net values number = (reason : Reason) → constraint_of reason ≡ number → IsTried net values reason

-- the constraint of a number is of a kind
abbrev pub IsOfKind : Net → ℕ → RuleKind → Type 0
IsOfKind net number kind = option_map (λ (c : Constraint). c.kind) (slice_get net.constraints number) ≡ Some kind

-- the order of the turn rule among the sides of a constraint of a kind
abbrev pub side_rank : RuleKind → Side → ℕ
side_rank Lin Upper = 0
side_rank Lin Lower = 1
side_rank Late Lower = 0
side_rank Late Upper = 2
side_rank Early Lower = 0
side_rank Early Upper = 1

-- the place of the latest line in this order; only a latest constraint has such a line
abbrev pub latest_rank : RuleKind → ℕ
latest_rank Lin = 3
latest_rank Late = 1
latest_rank Early = 3

-- the place of a reason in this order
abbrev pub reason_rank : RuleKind → Reason → ℕ
reason_rank kind (ByEdge name) = side_rank kind name.side
reason_rank kind (ByLatest number) = latest_rank kind

-- the number of the cause that a reason names
abbrev pub reason_cause : Reason → ℕ
reason_cause (ByEdge name) = name.cause
reason_cause (ByLatest number) = 0

-- one reason comes before another of the same constraint, where the constraint is of this kind
abbrev pub ReasonBefore : RuleKind → Reason → Reason → Type 0
ReasonBefore kind first second =
    (reason_rank kind first < reason_rank kind second) ⊎ ((reason_rank kind first ≡ reason_rank kind second) × (reason_cause first < reason_cause second))

-- a line by the constraint of a number; no line is allowed by a reason of this constraint that comes before
pub record IsFirstOf (net : Net) (values : List ℤ) (number : ℕ) (line : FallLine) : Type 0 where
  pub is : constraint_of line.reason ≡ number
  pub earlier : (kind : RuleKind) (reason : Reason) → IsOfKind net number kind → constraint_of reason ≡ number → ReasonBefore kind reason line.reason → IsTried net values reason

-- a line by an edge of the constraint of a number on a side; no line by an earlier cause on this side is allowed
abbrev pub IsFirstOnSide : Net → List ℤ → ℕ → Side → FallLine → Type 0
IsFirstOnSide net values number side line =
    (cause : ℕ) × (line.reason ≡ ByEdge (record { constraint = number; cause = cause; side = side }))
    × ((k : ℕ) → k < cause → IsTried net values (ByEdge (record { constraint = number; cause = k; side = side })))

-- the line of a turn: no line of a constraint of lesser number is allowed, and it is the first of its constraint
pub record IsTurnLine (net : Net) (values : List ℤ) (line : FallLine) : Type 0 where
  pub least : (number : ℕ) → number < constraint_of line.reason → IsConstraintTried net values number
  pub first : IsFirstOf net values (constraint_of line.reason) line

-- satisfying times meet the edges of the constraint of a number on a side, whatever cause is chosen
abbrev pub HoldsSide : Net → ℕ → Side → Type 0
HoldsSide net number side = IsSomeAnd (slice_get net.constraints number) (λ (c : Constraint). IsTrue (holds_always c.kind (length c.causes) side))

-- the value of a cause plus its high end, or none where the high end is open
abbrev pub IsHighOf : Net → List ℤ → ℕ → ℕ → Option ℤ → Type 0
IsHighOf net values number cause value =
    (c : Cause) → cause_at net number cause ≡ Some c → value ≡ option_map (λ high. time_of values c.event +ℤ high) c.range.high

-- no high end of the constraint of a number is open, and the value is the greatest of its causes' values, each plus its high end
abbrev pub IsLatestValue : Net → List ℤ → ℕ → ℤ → Type 0
IsLatestValue net values number value =
    IsSomeAnd (slice_get net.constraints number)
    (λ (c : Constraint). All (λ (cause : Cause). IsSome cause.range.high) c.causes × IsLatestHigh values c.causes value)

-- a cause of the constraint of a number has an open high end
abbrev pub HasOpenHigh : Net → ℕ → Type 0
HasOpenHigh net number = (cause : ℕ) × (c : Cause) × (cause_at net number cause ≡ Some c) × (c.range.high ≡ None)
