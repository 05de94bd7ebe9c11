-- What is found of a pair of events.
use Rattle.std.specs.Prelude.{◌≡◌, ◌≤◌, ℕ, ℤ, pos, neg_ℤ, ◌<ℤ◌, Bool, List, All, length}
use Rattle.itv_base.specs.declared.names.EventId.{EventId}
use Rattle.event_graph.specs.Bounds.{IsGreatest, IsInconsistent, IsRay}
use Rattle.event_graph.specs.Network.{Net}
use Rattle.event_graph.specs.Satisfying.{Satisfies}
use Rattle.event_graph.specs.Times.{separation}
use Rattle.falling.specs.declared.view.View.{View}
use Rattle.falling.specs.Cap.{IsNearValue, far_line}
use Rattle.falling.specs.DerivationEnds.{AreLimits}
use Rattle.falling.specs.Kinds.{negated}
use Rattle.settle.specs.declared.shown_answer.ShownAnswer.{ShownAnswer}
use Rattle.settle.specs.declared.shown_answer.Settled.{Settled}
use Rattle.settle.specs.declared.shown_answer.Settled.TheVariants.{Closed, Unbounded, Inconsistent, Spent}
use Rattle.edge_clauses.specs.declared.line.StoredLine.{StoredLine}
use Rattle.settle.specs.declared.settler.Settler.{Settler}
use Rattle.edge_clauses.specs.Proofs.{IsProofAs}

-- the value is the greatest separation, times within the greatest cap satisfy and attain it, and the lines prove that no separation exceeds it
pub record IsSettledAt (net : Net) (from to : EventId) (value : ℤ) (view : View) (lines : List StoredLine) (times : List ℤ) : Type 0 where
  pub greatest : IsGreatest net from to value
  pub satisfies : Satisfies times net
  pub attained : separation times from to ≡ value
  pub near : All IsNearValue times
  pub proof : IsProofAs view net from to value lines

-- times within the greatest cap satisfy, and the events of the ray can be raised from them without end
pub record IsSettledUnbounded (net : Net) (from to : EventId) (times : List ℤ) (ray : List Bool) : Type 0 where
  pub satisfies : Satisfies times net
  pub near : All IsNearValue times
  pub raised : IsRay net from to times ray

-- no times satisfy, and the lines prove it: they prove a claim below minus the far line
pub record IsSettledInconsistent (net : Net) (from to : EventId) (claim : ℤ) (view : View) (lines : List StoredLine) : Type 0 where
  pub none : IsInconsistent net
  pub low : claim <ℤ neg_ℤ (pos (far_line net))
  pub proof : IsProofAs view net from to claim lines

-- an answer is right for a pair, where `turns` are the allowed turns
abbrev pub IsRightAnswer : Net → EventId → EventId → ℕ → ShownAnswer → Settled → Type 0
IsRightAnswer net from to turns found (Closed value) = IsSettledAt net from to value found.view found.lines.items found.times.items × (found.claim.value ≡ value)
IsRightAnswer net from to turns found Unbounded = IsSettledUnbounded net from to found.times.items found.ray.items
IsRightAnswer net from to turns found Inconsistent = IsSettledInconsistent net from to found.claim.value found.view found.lines.items
IsRightAnswer net from to turns found Spent = found.turns ≡ turns

-- a settler made for a network
pub record IsMadeFor (net : Net) (settler : Settler) : Type 0 where
  pub negation : settler.negation ≡ negated net
  pub limits : AreLimits net settler.limits

-- what was found in at most so many turns: the answer is right, and there are at most as many lines as turns taken
pub record IsFound (net : Net) (from to : EventId) (turns : ℕ) (found : ShownAnswer) : Type 0 where
  pub answer : IsRightAnswer net from to turns found found.answer
  pub most : found.turns ≤ turns
  pub lines : length found.lines.items ≤ found.turns
