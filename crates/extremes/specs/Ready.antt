-- What is known of a network between the calls.
use Rattle.std.specs.Prelude.{◌≡◌, ◌<◌, ◌≤◌, ℕ, ℤ, pos, ◌≤ℤ◌, Bool, List, Option, Some, None, All, IfSome, IsSome, length}
use Rattle.std.specs.Global.{Vec}
use Rattle.event_graph.specs.Bounds.{IsInconsistent}
use Rattle.event_graph.specs.Network.{Net}
use Rattle.event_graph.specs.Satisfying.{Satisfies}
use Rattle.branch.specs.Work.{IsMadeFor}
use Rattle.branch.specs.declared.work.TheConstants.{MAX_START}
use Rattle.chains.specs.Named.{IsRefuting}
use Rattle.settle.specs.ShownAnswer.{IsMadeFor as IsSettlerFor}
use Rattle.settle.specs.declared.run_turns.RunTurns.{RunTurns}
use Rattle.extremes.specs.declared.extremes.Extremes.{Extremes}

-- a time is no less than 0 and no greater than the greatest separation that a search by cases may start from
abbrev pub IsStartTime : ℤ → Type 0
IsStartTime time = (pos 0 ≤ℤ time) × (time ≤ℤ MAX_START)

-- satisfying times from which a search by cases may start
pub record AreStart (net : Net) (times : List ℤ) : Type 0 where
  pub satisfies : Satisfies times net
  pub spread : All IsStartTime times

-- the memory is made for a network, a search may close at least one case, and known times and times to start from satisfy
pub record IsFor (net : Net) (extremes : Extremes) : Type 0 where
  pub work : IsMadeFor net extremes.work
  pub settler : IsSettlerFor net extremes.settler
  pub some_cases : 0 < extremes.budget
  pub marks : length extremes.marking ≡ length net.constraints
  pub known : IfSome extremes.work.known (λ times. Satisfies times net)
  pub start : IfSome extremes.start (λ times. AreStart net times.items)

-- the network was found consistent: some times satisfy it, and a search by cases can start from known times or from others
pub record IsReady (net : Net) (extremes : Extremes) : Type 0 where
  pub made : IsFor net extremes
  pub consistent : (times : List ℤ) × Satisfies times net
  pub begins : extremes.work.known ≡ None → IsSome extremes.start

-- Where a search by cases found that no times satisfy, the marked constraints are those that its proof names. Where a search by clauses did, there is a
-- guess.
abbrev pub IsMarkedOrGuessed : Net → List Bool → Option (Vec Bool) → Type 0
IsMarkedOrGuessed net marks None = IsRefuting net marks
IsMarkedOrGuessed net marks (Some guess) = length guess.items ≡ length net.constraints

-- the network was found inconsistent
pub record IsContradicted (net : Net) (extremes : Extremes) : Type 0 where
  pub made : IsFor net extremes
  pub none : IsInconsistent net
  pub shown : IsMarkedOrGuessed net extremes.marking extremes.guess

-- the turns of a run after a search: each search may take as many as before, and there are no more left
pub record AreTurnsOf (old new : RunTurns) : Type 0 where
  pub each : new.each ≡ old.each
  pub left : new.left ≤ old.left
