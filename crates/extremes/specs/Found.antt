-- Whether times satisfy a network, and what is found of the greatest separation of a pair.
use Rattle.std.specs.Prelude.{◌≡◌, ◌⊎◌, ℕ, ℤ, Bool, List, Option, All, IfSome, IsSomeAnd, length}
use Rattle.std.specs.Global.{Vec}
use Rattle.itv_base.specs.declared.names.EventId.{EventId}
use Rattle.event_graph.specs.Bounds.{IsGreatest, IsInconsistent, IsRay}
use Rattle.event_graph.specs.Network.{Net}
use Rattle.event_graph.specs.Proof.{IsStoppedProof, Nothing, ProofLine}
use Rattle.event_graph.specs.Proof.{Bound as BoundGoal}
use Rattle.event_graph.specs.RootBound.{IsRootBound, MeetsAlways}
use Rattle.event_graph.specs.Satisfying.{Satisfies}
use Rattle.event_graph.specs.Times.{IsTime, separation}
use Rattle.chains.specs.Named.{IsContradiction, IsRefuting}
use Rattle.requirements.specs.declared.consistency.Consistency.{Consistency}
use Rattle.requirements.specs.declared.consistency.Consistency.TheVariants.{Consistent, Inconsistent, Open}
use Rattle.requirements.specs.declared.separation.Separation.{Separation}
use Rattle.requirements.specs.declared.separation.Separation.TheVariants as greatest

-- ---- the finding

-- what a finding says of a network: some times satisfy it, or none do; where it was left open it says nothing
abbrev pub IsConsistency : Net → Consistency → Type 0
IsConsistency net Consistent = (times : List ℤ) × Satisfies times net
IsConsistency net Inconsistent = IsInconsistent net
IsConsistency net Open = Unit {0}

-- a search by cases left open whether times satisfy: some times meet all always-edges, and a stopped proof that none satisfy used the budget up
pub record IsFindingOpen (net : Net) (budget : ℕ) : Type 0 where
  pub always : (times : List ℤ) × MeetsAlways times net
  pub stopped : (lines : List ProofLine) × IsStoppedProof net Nothing lines budget

-- The constraints of the set contradict each other by themselves. They are just those that a proof by cases names, or a search by cases left the finding
-- open.
pub record IsContradictionFound (net : Net) (budget : ℕ) (set : List Bool) : Type 0 where
  pub count : length set ≡ length net.constraints
  pub contradicts : IsContradiction net set
  pub named : IsRefuting net set ⊎ IsFindingOpen net budget

-- ---- greatest separations

-- the value is the greatest separation of a pair, and the times satisfy the network and attain it
pub record IsAttainedBy (net : Net) (from to : EventId) (value : ℤ) (times : List ℤ) : Type 0 where
  pub greatest : IsGreatest net from to value
  pub satisfies : Satisfies times net
  pub attains : separation times from to ≡ value
  pub count : length times ≡ net.events
  pub within : All IsTime times
  pub value_within : IsTime value

-- the events of a set can be raised by any number from satisfying times; the to-event is one of them, and the from-event is not
abbrev pub CanRise : Net → EventId → EventId → List Bool → Type 0
CanRise net from to set = (times : List ℤ) × Satisfies times net × IsRay net from to times set

-- what is found of a greatest separation: times attain a number, and a set of events can be raised where there is none
abbrev pub Greatest : Type 0
Greatest = Separation (Vec ℤ) (Vec Bool)

-- what is found of the greatest separation of a pair; where it was left open this says nothing
abbrev pub IsGreatestFound : Net → EventId → EventId → Greatest → Type 0
IsGreatestFound net from to (greatest.Closed value times) = IsAttainedBy net from to value times.items
IsGreatestFound net from to (greatest.Unbounded set) = CanRise net from to set.items
IsGreatestFound net from to (greatest.Open limit attained) = Unit {0}

-- A search by cases left the greatest separation open. The limit is the root bound, some satisfying times attain the other number, and a stopped proof
-- that no separation exceeds this number used the budget up.
pub record IsLeftOpen (net : Net) (budget : ℕ) (from to : EventId) (limit : Option ℤ) (attained : ℤ) : Type 0 where
  pub root : IsRootBound net from to limit
  pub attains : (times : List ℤ) × Satisfies times net × (separation times from to ≡ attained)
  pub stopped : (lines : List ProofLine) × IsStoppedProof net (BoundGoal from to attained) lines budget
  pub limit_within : IfSome limit IsTime
  pub within : IsTime attained

-- where the greatest separation was left open, some separation was attained, and a search by cases left it so; of other answers this says nothing
abbrev pub IsOpenShown : Net → ℕ → EventId → EventId → Greatest → Type 0
IsOpenShown net budget from to (greatest.Closed value times) = Unit {0}
IsOpenShown net budget from to (greatest.Unbounded set) = Unit {0}
IsOpenShown net budget from to (greatest.Open limit attained) = IsSomeAnd attained (IsLeftOpen net budget from to limit)
