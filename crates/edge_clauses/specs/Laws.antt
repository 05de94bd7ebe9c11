-- Laws of proofs by clauses, over the definitions alone.
use Rattle.std.specs.Prelude.{◌≡◌, ◌<◌, ℤ, pos, neg_ℤ, ◌≤ℤ◌, ◌<ℤ◌, List}
use Rattle.itv_base.specs.declared.names.EventId.{EventId}
use Rattle.event_graph.specs.Bounds.{IsGreatest, IsInconsistent}
use Rattle.event_graph.specs.Network.{IsNet, Net}
use Rattle.event_graph.specs.Satisfying.{Satisfies}
use Rattle.event_graph.specs.Times.{separation}
use Rattle.falling.specs.Cap.{far_line}
use Rattle.falling.specs.DerivationEnds.{AreLimits}
use Rattle.falling.specs.Kinds.{negated}
use Rattle.edge_clauses.specs.Lines.{ClauseLine, Goal, IsClauseProof, ProofLeads, State, claiming, starting}
use Rattle.edge_clauses.specs.Checking.{ClauseCheckerView, IsChecking, TakesLine}

-- if the claim of a proof is below the far line, no satisfying times have a greater separation of the pair
abbrev pub ClauseProofBounds : Type 0
ClauseProofBounds = (net : Net) (goal : Goal) (lines : List ClauseLine) (times : List ℤ) → IsNet net → goal.from.0 < net.events → goal.to.0 < net.events
    → goal.claim <ℤ pos (far_line net) → IsClauseProof net goal lines → Satisfies times net → separation times goal.from goal.to ≤ℤ goal.claim

-- a proof with a claim below minus the far line shows that no times satisfy
abbrev pub ClauseProofOfNothing : Type 0
ClauseProofOfNothing = (net : Net) (goal : Goal) (lines : List ClauseLine) → IsNet net → goal.from.0 < net.events → goal.to.0 < net.events
    → goal.claim <ℤ neg_ℤ (pos (far_line net)) → IsClauseProof net goal lines → IsInconsistent net

-- a proof for the reversed pair in the negated network bounds the pair
abbrev pub NegatedProofBounds : Type 0
NegatedProofBounds = (net : Net) (from to : EventId) (claim : ℤ) (lines : List ClauseLine) (times : List ℤ) → IsNet net → from.0 < net.events → to.0 < net.events
    → claim <ℤ pos (far_line net) → IsClauseProof (negated net) (record { from = to; to = from; claim = claim }) lines → Satisfies times net
    → separation times from to ≤ℤ claim

-- a proof in the negated network with a claim below minus the far line shows that no times satisfy
abbrev pub NegatedProofOfNothing : Type 0
NegatedProofOfNothing = (net : Net) (goal : Goal) (lines : List ClauseLine) → IsNet net → goal.from.0 < net.events → goal.to.0 < net.events
    → goal.claim <ℤ neg_ℤ (pos (far_line net)) → IsClauseProof (negated net) goal lines → IsInconsistent net

-- lines that lead from a state to another still do so if the goal claims more
abbrev pub ClaimCanRise : Type 0
ClaimCanRise = (net : Net) (goal : Goal) (claim : ℤ) (state : State) (lines : List ClauseLine) (after : State) → goal.claim ≤ℤ claim → ProofLeads net goal state lines after
    → ProofLeads net (claiming goal claim) state lines after

-- a proof and satisfying times that attain its claim give the greatest separation
abbrev pub ProofAndTimesClose : Type 0
ProofAndTimesClose = (net : Net) (goal : Goal) (lines : List ClauseLine) (times : List ℤ) → IsNet net → goal.from.0 < net.events → goal.to.0 < net.events
    → goal.claim <ℤ pos (far_line net) → IsClauseProof net goal lines → Satisfies times net → separation times goal.from goal.to ≡ goal.claim
    → IsGreatest net goal.from goal.to goal.claim

-- `IsChecking` holds of a checker at the start of a goal
abbrev pub StartIsChecking : Type 0
StartIsChecking = (net : Net) (check : ClauseCheckerView) → AreLimits net check.limits → check.goal.from.0 < net.events → check.goal.to.0 < net.events
    → check.state ≡ starting net check.goal.from → IsChecking net check

-- `IsChecking` still holds after a checker takes a line
abbrev pub TakenLineKeepsChecking : Type 0
TakenLineKeepsChecking = (net : Net) (old new : ClauseCheckerView) (line : ClauseLine) → IsChecking net old → TakesLine net old line new → IsChecking net new

-- `IsChecking` still holds after a checker raises its claim
abbrev pub RaisedKeepsChecking : Type 0
RaisedKeepsChecking = (net : Net) (old new : ClauseCheckerView) (claim : ℤ) → IsChecking net old → old.goal.claim ≤ℤ claim → new.limits ≡ old.limits → new.goal ≡ claiming old.goal claim
    → new.state ≡ old.state → IsChecking net new
