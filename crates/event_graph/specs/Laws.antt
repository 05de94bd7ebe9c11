-- Laws of networks, over the definitions alone.
use Rattle.std.specs.Prelude.{◌≡◌, ◌↔◌, ◌<◌, ◌≤◌, ℕ, ℤ, neg_ℤ, ◌≤ℤ◌, Bool, List, length, Some, IfSome, slice_get}
use Rattle.itv_base.specs.Range.{Ends}
use Rattle.itv_base.specs.declared.names.EdgeName.{EdgeName}
use Rattle.itv_base.specs.declared.names.EventId.{EventId}
use Rattle.itv_base.specs.declared.names.Side.{Side}
use Rattle.event_graph.specs.declared.cause.Cause.{Cause}
use Rattle.event_graph.specs.declared.edge.Edge.{Edge}
use Rattle.event_graph.specs.Bounds.{IsGreatest, IsInconsistent, IsLeast, IsRay, IsUnbounded}
use Rattle.event_graph.specs.Edges.{IsAlways, Meets, cause_choices, choice_side, edge}
use Rattle.event_graph.specs.Network.{Constraint, HasNoChoices, IsNet, Net, cause_at, with_range}
use Rattle.event_graph.specs.Proof.{Bound, Case, HasChoice, IsProof, IsStoppedProof, Nothing, ProofGoal, ProofLine, ProofLeaves, closing_lines}
use Rattle.event_graph.specs.Reading.{cases_left}
use Rattle.event_graph.specs.RootBound.{HasNoRoot, IsRootBound, MeetsAlways}
use Rattle.event_graph.specs.Satisfying.{Holds, Satisfies}
use Rattle.event_graph.specs.Times.{separation, shifted}

-- times satisfy a network if and only if they do so with one number added to all of them
abbrev pub ShiftKeepsSatisfying : Type 0
ShiftKeepsSatisfying = (net : Net) (times : List ℤ) (by : ℤ) → IsNet net → (Satisfies times net ↔ Satisfies (shifted times by) net)

-- the least separation of a pair is minus the greatest separation of the reversed pair
abbrev pub LeastIsReversedGreatest : Type 0
LeastIsReversedGreatest = (net : Net) (from to : EventId) (value : ℤ) → (IsLeast net from to value ↔ IsGreatest net to from (neg_ℤ value))

-- a pair with a ray is unbounded
abbrev pub RayIsUnbounded : Type 0
RayIsUnbounded = (net : Net) (from to : EventId) (times : List ℤ) (set : List Bool) → IsRay net from to times set → IsUnbounded net from to

-- the times meet the always-edges of the constraint with a number
abbrev pub MeetsAlwaysOf : List ℤ → Net → ℕ → Type 0
MeetsAlwaysOf times net number = (name : EdgeName) (e : Edge) → name.constraint ≡ number → IsAlways net name → edge net name ≡ Some e → Meets times e

-- the times meet the edge of some cause on the choice side, or the end there is open
abbrev pub MeetsSomeChoice : List ℤ → Net → ℕ → Constraint → Type 0
MeetsSomeChoice times net number c =
    (cause : ℕ) × (cause < length c.causes) × IfSome (edge net (record { constraint = number; cause = cause; side = choice_side c.kind })) (Meets times)

-- a constraint holds if and only if the times meet its always-edges and, for a latest or earliest constraint, some choice
abbrev pub HoldsByEdges : Type 0
HoldsByEdges = (net : Net) (number : ℕ) (c : Constraint) (times : List ℤ) → IsNet net → slice_get net.constraints number ≡ Some c
    → (Holds times c ↔ (MeetsAlwaysOf times net number × (HasChoice c.kind → MeetsSomeChoice times net number c)))

-- the times meet the edges of the first cause of the constraint with a number, on both sides
abbrev pub MeetsBothSides : List ℤ → Net → ℕ → Type 0
MeetsBothSides times net number = (side : Side) → IfSome (edge net (record { constraint = number; cause = 0; side = side })) (Meets times)

-- a constraint of one cause holds if and only if the times meet both its edges, whatever its kind
abbrev pub SingleCauseIsLinear : Type 0
SingleCauseIsLinear = (net : Net) (number : ℕ) (c : Constraint) (times : List ℤ) → IsNet net → slice_get net.constraints number ≡ Some c
    → length c.causes ≡ 1 → (Holds times c ↔ MeetsBothSides times net number)

-- satisfying times meet every always-edge
abbrev pub SatisfyingMeetsAlways : Type 0
SatisfyingMeetsAlways = (net : Net) (times : List ℤ) → Satisfies times net → MeetsAlways times net

-- times satisfy a network without choices if and only if they meet its always-edges
abbrev pub SatisfyingIsMeetingAlways : Type 0
SatisfyingIsMeetingAlways = (net : Net) (times : List ℤ) → IsNet net → HasNoChoices net → (Satisfies times net ↔ MeetsAlways times net)

-- no satisfying separation exceeds the root bound of the pair, where that is a number
abbrev pub RootBoundEncloses : Type 0
RootBoundEncloses = (net : Net) (from to : EventId) (value : ℤ) (times : List ℤ) → IsRootBound net from to (Some value) → Satisfies times net
    → separation times from to ≤ℤ value

-- if no times meet the always-edges, no times satisfy
abbrev pub NoRootIsInconsistent : Type 0
NoRootIsInconsistent = (net : Net) → HasNoRoot net → IsInconsistent net

-- if there is a proof of a value for a pair, no satisfying separation of the pair exceeds it
abbrev pub ProofBounds : Type 0
ProofBounds = (net : Net) (from to : EventId) (value : ℤ) (lines : List ProofLine) (times : List ℤ) → IsProof net (Bound from to value) lines
    → Satisfies times net → separation times from to ≤ℤ value

-- if there is a proof of `Nothing`, no times satisfy the network
abbrev pub ProofOfNothing : Type 0
ProofOfNothing = (net : Net) (lines : List ProofLine) → IsProof net Nothing lines → IsInconsistent net

-- the cases that accepted lines leave open do not depend on what the lines show
abbrev pub ReadingLeavesCases : Type 0
ReadingLeavesCases = (net : Net) (goal : ProofGoal) (cases left : List Case) (lines : List ProofLine) → ProofLeaves net goal cases lines left
    → cases_left net cases lines ≡ left

-- a proof closes at most as many cases as there are cause choices
abbrev pub ProofIsWithinChoices : Type 0
ProofIsWithinChoices = (net : Net) (goal : ProofGoal) (lines : List ProofLine) → IsNet net → IsProof net goal lines
    → closing_lines lines ≤ cause_choices net.constraints

-- a stopped proof closes fewer cases than there are cause choices
abbrev pub StoppedProofIsBelowChoices : Type 0
StoppedProofIsBelowChoices = (net : Net) (goal : ProofGoal) (lines : List ProofLine) (count : ℕ) → IsNet net → IsStoppedProof net goal lines count
    → count < cause_choices net.constraints

-- if a cause gets another range and then its old range again, the network is as before
abbrev pub RangeSetAgain : Type 0
RangeSetAgain = (net : Net) (constraint cause : ℕ) (range : Ends) (c : Cause) → cause_at net constraint cause ≡ Some c
    → with_range (with_range net constraint cause range) constraint cause c.range ≡ net
