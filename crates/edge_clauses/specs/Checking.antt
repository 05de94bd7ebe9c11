-- The state of a checker of proofs by clauses, and the verdict of a proof and times.
use Rattle.std.specs.Prelude.{◌≡◌, ◌<◌, ℤ, ◌<ℤ◌, List}
use Rattle.event_graph.specs.Bounds.{IsGreatest, IsInconsistent}
use Rattle.event_graph.specs.Network.{Net}
use Rattle.event_graph.specs.Satisfying.{Satisfies}
use Rattle.event_graph.specs.Times.{separation}
use Rattle.falling.specs.declared.limits.Limits.{Limits}
use Rattle.falling.specs.DerivationEnds.{AreLimits}
use Rattle.edge_clauses.specs.Lines.{ClauseLine, Goal, IsLine, IsOver, ProofLeads, State, starting}
use Rattle.edge_clauses.specs.declared.decided.ProofVerdict.{ProofVerdict}
use Rattle.edge_clauses.specs.declared.decided.ProofVerdict.TheVariants.{Closed, Inconsistent, Open}
use Rattle.edge_clauses.specs.declared.basis.Basis.{Basis}
use Rattle.edge_clauses.specs.Clauses.{Clause, IsClause}

-- the basis has no clause
abbrev pub HasNoClause : Net → List Clause → Basis → Type 0
HasNoClause net kept basis = (c : Clause) → IsClause net kept basis c → ⊥

-- the basis has a clause, and something holds of it
abbrev pub SomeClause : Net → List Clause → Basis → (Clause → Type 0) → Type 0
SomeClause net kept basis P = (c : Clause) × IsClause net kept basis c × P c

-- a checker: its limits, its goal, and the state that the lines have reached
pub record ClauseCheckerView : Type 0 where
  pub limits : Limits
  pub goal : Goal
  pub state : State

-- a checker of a goal over a network. Lines lead from the start to its state
pub record IsChecking (net : Net) (check : ClauseCheckerView) : Type 0 where
  pub limits : AreLimits net check.limits
  pub from : check.goal.from.0 < net.events
  pub to : check.goal.to.0 < net.events
  pub lines : (lines : List ClauseLine) × ProofLeads net check.goal (starting net check.goal.from) lines check.state

-- the line leads from the state of the old checker to the state of the new one, and nothing else changes
pub record TakesLine (net : Net) (old : ClauseCheckerView) (taken : ClauseLine) (new : ClauseCheckerView) : Type 0 where
  pub limits : new.limits ≡ old.limits
  pub goal : new.goal ≡ old.goal
  pub line : IsLine net old.goal old.state taken new.state

-- the line leads from the checker's state to no state
abbrev pub IsNoLine : Net → ClauseCheckerView → ClauseLine → Type 0
IsNoLine net check line = (next : State) → IsLine net check.goal check.state line next → ⊥

-- what a proof and times say of the pair of a goal: the times satisfy and the claim is the greatest separation, which they attain; or no times satisfy;
-- or nothing
abbrev pub IsVerdict : Net → Goal → List ℤ → ProofVerdict → Type 0
IsVerdict net goal times (Closed value) =
    (value ≡ goal.claim) × IsGreatest net goal.from goal.to value × Satisfies times net × (separation times goal.from goal.to ≡ value)
IsVerdict net goal times Inconsistent = IsInconsistent net
IsVerdict net goal times Open = Unit {0}

-- why nothing is said: if the lines are a proof, the claim is not below minus the far line; and if the claim is below the far line, the times do not
-- both satisfy the network and attain the claim
abbrev pub SaysNothing : Net → ClauseCheckerView → List ℤ → Type 0
SaysNothing net check times =
    IsOver check.goal check.state
    → (check.goal.claim <ℤ check.limits.lowest → ⊥)
    × (check.goal.claim <ℤ check.limits.far → Satisfies times net → separation times check.goal.from check.goal.to ≡ check.goal.claim → ⊥)
