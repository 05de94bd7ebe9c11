-- What a search answers, and what its lines show.
use Rattle.std.specs.Prelude.{◌≡◌, ◌+◌, ◌<◌, ◌≤◌, ℕ, ℤ, Bool, List, Option, IfSome, IsSomeAnd}
use Rattle.itv_base.specs.declared.names.EventId.{EventId}
use Rattle.event_graph.specs.Bounds.{IsGreatest, IsInconsistent, IsRay}
use Rattle.event_graph.specs.Edges.{cause_choices}
use Rattle.event_graph.specs.Limits.{IsReach}
use Rattle.event_graph.specs.Network.{Net}
use Rattle.event_graph.specs.Proof.{IsProof, IsStoppedProof, Nothing, ProofLine, closing_lines}
use Rattle.event_graph.specs.Proof.{Bound as BoundGoal}
use Rattle.event_graph.specs.RootBound.{HasNoRoot, IsRootBound, MeetsAlways}
use Rattle.event_graph.specs.Satisfying.{Satisfies}
use Rattle.event_graph.specs.Times.{separation}
use Rattle.branch.specs.Work.{WorkView}
use Rattle.requirements.specs.declared.bound.Bound.{Bound}
use Rattle.requirements.specs.declared.bound.Bound.TheVariants.{Closed, Unbounded, Within}
use Rattle.requirements.specs.declared.consistency.Consistency.{Consistency}
use Rattle.requirements.specs.declared.consistency.Consistency.TheVariants.{Consistent, Inconsistent, Open}
use Rattle.branch.specs.declared.answer.Root.{Root}
use Rattle.branch.specs.declared.answer.Root.TheVariants as roots

-- the cases that a search closed are no more than its budget and no more than the cause choices
pub record IsCounted (net : Net) (budget leaves : ℕ) : Type 0 where
  pub within_budget : leaves ≤ budget
  pub within_choices : leaves ≤ cause_choices net.constraints

-- a search for the greatest separation of a pair of events in a network, and how many cases it may close
pub record PairSearch : Type 0 where
  pub net : Net
  pub from : EventId
  pub to : EventId
  pub budget : ℕ

-- what a search leaves for its answer: the lines of its proof, how many cases it closed, times, and the events that can be raised from them
pub record Evidence : Type 0 where
  pub lines : List ProofLine
  pub leaves : ℕ
  pub times : List ℤ
  pub ray : List Bool

-- these lines, and what the working memory holds after the search
abbrev pub evidence : List ProofLine → WorkView → Evidence
evidence lines work = record { lines = lines; leaves = work.leaves; times = work.times; ray = work.ray }

-- the value is the greatest separation, the times attain it, and the lines prove it with a closing line for each closed case
pub record IsClosedAt (search : PairSearch) (value : ℤ) (left : Evidence) : Type 0 where
  pub greatest : IsGreatest search.net search.from search.to value
  pub attained : separation left.times search.from search.to ≡ value
  pub proof : IsProof search.net (BoundGoal search.from search.to value) left.lines
  pub count : closing_lines left.lines ≡ left.leaves

-- The events of the ray can be raised from the times without end. The lines are a stopped proof of some value. They close every counted case but
-- the last; the last case gave these times.
pub record IsShownUnbounded (search : PairSearch) (left : Evidence) : Type 0 where
  pub raised : IsRay search.net search.from search.to left.times left.ray
  pub stopped : (value : ℤ) × (count : ℕ) × IsStoppedProof search.net (BoundGoal search.from search.to value) left.lines count × (left.leaves ≡ count + 1)

-- The budget ended the search. The upper value is the root bound, open or within the reach of a path, and the times attain the other value. The
-- lines are a stopped proof of that value. They close as many cases as the budget, which is less than the cause choices.
pub record IsEnclosedBy (search : PairSearch) (upper : Option ℤ) (attained : ℤ) (left : Evidence) : Type 0 where
  pub root : IsRootBound search.net search.from search.to upper
  pub within : IfSome upper IsReach
  pub attains : separation left.times search.from search.to ≡ attained
  pub stopped : IsStoppedProof search.net (BoundGoal search.from search.to attained) left.lines left.leaves
  pub used : left.leaves ≡ search.budget
  pub below_choices : search.budget < cause_choices search.net.constraints

-- what an answer says of the greatest separation, with the evidence that the search leaves; where it is open, some separation was attained
abbrev pub IsGreatestAnswer : PairSearch → Evidence → Bound → Type 0
IsGreatestAnswer search left (Closed value) = IsClosedAt search value left
IsGreatestAnswer search left Unbounded = IsShownUnbounded search left
IsGreatestAnswer search left (Within limit attained) = IsSomeAnd attained (λ value. IsEnclosedBy search limit value left)

-- There are known times, and they satisfy. The lines are a stopped proof that no times satisfy. They close every counted case but the last; the
-- last case gave the known times.
pub record IsFoundConsistent (net : Net) (lines : List ProofLine) (leaves : ℕ) (known : Option (List ℤ)) : Type 0 where
  pub satisfies : IsSomeAnd known (λ times. Satisfies times net)
  pub stopped : (count : ℕ) × IsStoppedProof net Nothing lines count × (leaves ≡ count + 1)

-- no times satisfy, and the lines prove it with a closing line for each closed case
pub record IsFoundInconsistent (net : Net) (lines : List ProofLine) (leaves : ℕ) : Type 0 where
  pub none : IsInconsistent net
  pub proof : IsProof net Nothing lines
  pub count : closing_lines lines ≡ leaves

-- The budget ended the search, and the always-edges allow times. The lines are a stopped proof. They close as many cases as the budget, which is
-- less than the cause choices.
pub record IsFoundOpen (net : Net) (budget : ℕ) (lines : List ProofLine) (leaves : ℕ) : Type 0 where
  pub always : (times : List ℤ) × MeetsAlways times net
  pub stopped : IsStoppedProof net Nothing lines leaves
  pub used : leaves ≡ budget
  pub below_choices : budget < cause_choices net.constraints

-- what a finding says of a network, with the lines of the search and the known times
abbrev pub Finds : Net → ℕ → List ProofLine → ℕ → Option (List ℤ) → Consistency → Type 0
Finds net budget lines leaves known Consistent = IsFoundConsistent net lines leaves known
Finds net budget lines leaves known Inconsistent = IsFoundInconsistent net lines leaves
Finds net budget lines leaves known Open = IsFoundOpen net budget lines leaves

-- the number of a root bound is within the reach of a path
abbrev pub IsRootReach : Root → Type 0
IsRootReach roots.NoTimes = Unit {0}
IsRootReach (roots.Bound upper) = IfSome upper IsReach

-- the root bound of a pair, or no bound where no times meet the always-edges
abbrev pub IsRoot : Net → EventId → EventId → Root → Type 0
IsRoot net from to roots.NoTimes = HasNoRoot net
IsRoot net from to (roots.Bound upper) = IsRootBound net from to upper
