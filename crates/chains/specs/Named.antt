-- The constraints that lines of a proof name, and what a set of constraints asks of times by itself.
use Rattle.std.specs.Prelude.{◌≡◌, ◌<◌, ◌⊎◌, false, ℕ, ℤ, Bool, IsTrue, List, [], ◌∷◌, length, Any, Some, slice_get, slice_index_or}
use Rattle.itv_base.specs.declared.names.EdgeName.{EdgeName}
use Rattle.event_graph.specs.Network.{Constraint, Net}
use Rattle.event_graph.specs.Proof.{IsProof, Loop, Nothing, Path, ProofLine, Split}
use Rattle.event_graph.specs.Satisfying.{Holds}

-- one of the edges is an edge of the constraint of a number
abbrev pub HasEdgeOf : List EdgeName → ℕ → Type 0
HasEdgeOf edges number = Any (λ (name : EdgeName). name.constraint ≡ number) edges

-- the line splits by the constraint of a number, or one of its edges is an edge of this constraint
abbrev pub Names : ProofLine → ℕ → Type 0
Names (Split constraint) number = constraint ≡ number
Names (Path edges) number = HasEdgeOf edges number
Names (Loop edges) number = HasEdgeOf edges number

-- one of the lines names the constraint of a number
abbrev pub SomeNames : List ProofLine → ℕ → Type 0
SomeNames [] number = ⊥
SomeNames (line ∷ lines) number = Names line number ⊎ SomeNames lines number

-- the constraint of a number is in the set; the set has a flag for each constraint
abbrev pub IsIn : List Bool → ℕ → Type 0
IsIn set number = IsTrue (slice_index_or set number false)

-- the set has each constraint that the lines name, if it has a flag for it
abbrev pub HasNames : List Bool → List ProofLine → Type 0
HasNames set lines = (number : ℕ) → number < length set → SomeNames lines number → IsIn set number

-- there are as many times as events, and the times keep each constraint of the set
pub record SatisfiesOf (set : List Bool) (times : List ℤ) (net : Net) : Type 0 where
  pub count : length times ≡ net.events
  pub each : (number : ℕ) (c : Constraint) → IsIn set number → slice_get net.constraints number ≡ Some c → Holds times c

-- no times satisfy the constraints of the set: they contradict each other by themselves
abbrev pub IsContradiction : Net → List Bool → Type 0
IsContradiction net set = (times : List ℤ) → SatisfiesOf set times net → ⊥

-- the constraints of the set are just the constraints that the lines name, of those that have a flag
pub record AreNamed (set : List Bool) (lines : List ProofLine) : Type 0 where
  pub named : HasNames set lines
  pub only : (number : ℕ) → IsIn set number → SomeNames lines number

-- the constraints of the set are the constraints that one proof names, and the proof shows that no times satisfy
pub record IsRefuting (net : Net) (set : List Bool) : Type 0 where
  pub lines : List ProofLine
  pub proof : IsProof net Nothing lines
  pub named : AreNamed set lines

-- The flags of the constraints, after lines of a proof. Their number is unchanged; each flag that was set still is; each flag of a constraint
-- that the lines name is set; and no other flag was set.
pub record HasMarked (old : List Bool) (lines : List ProofLine) (new : List Bool) : Type 0 where
  pub count : length new ≡ length old
  pub kept : (number : ℕ) → IsIn old number → IsIn new number
  pub named : HasNames new lines
  pub fresh : (number : ℕ) → IsIn new number → IsIn old number ⊎ SomeNames lines number
