-- What stands behind a greatest bound of a pair.
use Rattle.std.specs.Prelude.{◌≡◌, ℕ, ℤ, List, Option, None, Some, IfSome}
use Rattle.event_graph.specs.Bounds.{IsGreatest, IsUnbounded}
use Rattle.event_graph.specs.Network.{Net}
use Rattle.event_graph.specs.Proof.{IsStoppedProof, ProofLine}
use Rattle.event_graph.specs.Proof.{Bound as BoundGoal}
use Rattle.event_graph.specs.RootBound.{IsRootBound}
use Rattle.event_graph.specs.Times.{IsTime}
use Rattle.requirements.specs.Bounds.{HasTimes, IsAttained}
use Rattle.requirements.specs.Separations.{bound_of}
use Rattle.requirements.specs.declared.separation.Separation.TheVariants as separations
use Rattle.requirements.specs.declared.bound.Bound.{Bound}
use Rattle.requirements.specs.declared.bound.Bound.TheVariants as bounds
use Rattle.requirements.specs.declared.consistency.Consistency.{Consistency}
use Rattle.requirements.specs.declared.consistency.Consistency.TheVariants as findings
use Rattle.right_report.specs.Right.LineClaims.{HasAttained}
use Rattle.extremes.specs.Found.{CanRise, Greatest, IsAttainedBy, IsLeftOpen}
use Rattle.explanations.specs.Answers.{BoundFound, Explains}
use Rattle.event_graph.specs.declared.pair.Pair.{Pair}

-- ---- what is found of a pair

-- After a consistent finding a search found this of the greatest separation of a pair. After an open one nothing is searched, and the root bound is the limit:
-- then no separation was attained.
abbrev pub IsPairFound : Net → ℕ → Consistency → Pair → Greatest → Type 0
IsPairFound net budget word pair (separations.Closed value times) = (word ≡ findings.Consistent) × IsAttainedBy net pair.from pair.to value times.items
IsPairFound net budget word pair (separations.Unbounded set) = (word ≡ findings.Consistent) × CanRise net pair.from pair.to set.items
IsPairFound net budget word pair (separations.Open limit None) = (word ≡ findings.Open) × IsRootBound net pair.from pair.to limit × IfSome limit IsTime
IsPairFound net budget word pair (separations.Open limit (Some attained)) =
    (word ≡ findings.Consistent) × IsLeftOpen net budget pair.from pair.to limit attained

-- ---- a greatest bound

-- the limit is the root bound, and times attain the attained separation, if there is one
pub record IsOpenBound (net : Net) (word : Consistency) (pair : Pair) (limit value : Option ℤ) : Type 0 where
  pub root : IsRootBound net pair.from pair.to limit
  pub rests : HasAttained word value
  pub attained : IfSome value (IsAttained net pair.from pair.to)

-- a greatest bound after a finding
abbrev pub IsGreatestBy : Net → Consistency → Pair → Bound → Type 0
IsGreatestBy net word pair (bounds.Closed value) = (word ≡ findings.Consistent) × IsGreatest net pair.from pair.to value
IsGreatestBy net word pair bounds.Unbounded = (word ≡ findings.Consistent) × IsUnbounded net pair.from pair.to
IsGreatestBy net word pair (bounds.Within limit attained) = IsOpenBound net word pair limit attained

-- a greatest bound of a pair that was left open with an attained number has a stopped proof of it that used the budget up; other bounds need no lines
abbrev pub IsGreatestShown : Net → ℕ → Pair → Bound → Type 0
IsGreatestShown net budget pair (bounds.Closed value) = Unit {0}
IsGreatestShown net budget pair bounds.Unbounded = Unit {0}
IsGreatestShown net budget pair (bounds.Within limit None) = Unit {0}
IsGreatestShown net budget pair (bounds.Within limit (Some attained)) = (lines : List ProofLine) × IsStoppedProof net (BoundGoal pair.from pair.to attained) lines budget

-- a greatest bound is right after a finding, and it is open only if a search used the budget up
pub record IsGreatestFoundBy (net : Net) (budget : ℕ) (word : Consistency) (pair : Pair) (value : Bound) : Type 0 where
  pub bound : IsGreatestBy net word pair value
  pub shown : IsGreatestShown net budget pair value
  pub times : HasTimes value

-- the chain or the set that stands behind a greatest bound
abbrev pub IsBehindPair : Net → Pair → BoundFound → Type 0
IsBehindPair net pair (separations.Closed value chain) = Explains net pair.from pair.to value chain.items
IsBehindPair net pair (separations.Unbounded set) = CanRise net pair.from pair.to set.items
IsBehindPair net pair (separations.Open limit attained) = IfSome attained (IsAttained net pair.from pair.to)

-- a greatest bound after a finding, with the chain or the set that stands behind it
pub record IsExplained (net : Net) (budget : ℕ) (word : Consistency) (pair : Pair) (found : BoundFound) : Type 0 where
  pub bound : IsGreatestFoundBy net budget word pair (bound_of found)
  pub behind : IsBehindPair net pair found
