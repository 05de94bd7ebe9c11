-- Two searches that share the best times found.
use Rattle.std.specs.Prelude.{◌≡◌, ◌<◌, ◌+◌, ℕ, ℤ, pos, neg_ℤ, ◌<ℤ◌, All, List, length, None, IsSome, IfSome, IfNone, IsSomeAnd}
use Rattle.itv_base.specs.declared.names.EventId.{EventId}
use Rattle.event_graph.specs.Bounds.{IsRay}
use Rattle.event_graph.specs.Network.{Net}
use Rattle.event_graph.specs.Satisfying.{Satisfies}
use Rattle.event_graph.specs.Times.{separation}
use Rattle.falling.specs.declared.view.View.{View}
use Rattle.falling.specs.declared.view.View.TheVariants.{Plain, Negated}
use Rattle.falling.specs.Cap.{IsNearValue, far_line}
use Rattle.falling.specs.DerivationEnds.{AreLimits}
use Rattle.falling.specs.Kinds.{negated}
use Rattle.edge_clauses.specs.Lines.{IsOver}
use Rattle.settle.specs.declared.best.Best.{Best}
use Rattle.edge_clauses.specs.declared.line.StoredLine.{StoredLine}
use Rattle.settle.specs.declared.race.RaceEnd.{RaceEnd}
use Rattle.settle.specs.declared.race.RaceEnd.TheVariants.{Closed, Unbounded, Inconsistent}
use Rattle.settle.specs.declared.race.Race.{Race}
use Rattle.edge_clauses.specs.Proofs.{IsProving}

-- times within the greatest cap that satisfy and have this separation
pub record AreRaceTimes (net : Net) (from to : EventId) (value : ℤ) (times : List ℤ) : Type 0 where
  pub satisfies : Satisfies times net
  pub attained : separation times from to ≡ value
  pub near : All IsNearValue times

-- the best times found attain the claim. If none were found, the claim lies below minus the far line, so that a proof of it shows that no times satisfy
pub record IsBest (net : Net) (from to : EventId) (best : Best) : Type 0 where
  pub found : IfSome best.times (λ times. AreRaceTimes net from to best.claim.value times.items)
  pub none : IfNone best.times (best.claim.value <ℤ neg_ℤ (pos (far_line net)))

-- how many lines both searches have taken
abbrev pub line_count : Race → ℕ
line_count race = length race.plain.lines + length race.turned.lines

-- for both searches, lines lead from the start to the checker's state, and the checker claims what the best times attain
pub record IsRacing (net : Net) (race : Race) : Type 0 where
  pub from : race.from.0 < net.events
  pub to : race.to.0 < net.events
  pub limits : AreLimits net race.limits
  pub plain : IsProving net race.plain
  pub plain_goal : race.plain.check.goal ≡ record { from = race.from; to = race.to; claim = race.best.claim.value }
  pub turned : IsProving (negated net) race.turned
  pub turned_goal : race.turned.check.goal ≡ record { from = race.to; to = race.from; claim = race.best.claim.value }
  pub best : IsBest net race.from race.to race.best

-- the lines of the search of a view
abbrev pub lines_as : View → Race → List StoredLine
lines_as Plain race = race.plain.lines
lines_as Negated race = race.turned.lines

-- the search of a view is over
abbrev pub IsOverAs : View → Race → Type 0
IsOverAs Plain race = IsOver race.plain.check.goal race.plain.check.state
IsOverAs Negated race = IsOver race.turned.check.goal race.turned.check.state

-- an ending with a ray that starts at these times
abbrev pub IsRayEnding : Net → EventId → EventId → List ℤ → RaceEnd → Type 0
IsRayEnding net from to times (Closed view) = ⊥
IsRayEnding net from to times (Unbounded ray) = IsRay net from to times ray.items
IsRayEnding net from to times (Inconsistent view) = ⊥

-- how a race ends: the lines of a view prove that nothing exceeds the best times, or that no times satisfy, or the best times and a ray show that every
-- number is exceeded
abbrev pub IsEnding : Net → Race → RaceEnd → Type 0
IsEnding net race (Closed view) = IsOverAs view race × IsSome race.best.times × (race.best.claim.value <ℤ pos (far_line net))
IsEnding net race (Unbounded ray) = IsSomeAnd race.best.times (λ times. IsRay net race.from race.to times.items ray.items)
IsEnding net race (Inconsistent view) = IsOverAs view race × (race.best.times ≡ None)
