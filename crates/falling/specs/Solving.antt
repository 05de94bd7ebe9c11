-- The state of a solver that is made for a network, and what the solver says of a pair.
use Rattle.std.specs.Prelude.{◌≤◌, ◌≡◌, ◌<◌, ℕ, ℤ, Bool, List, length, Option, Some, None}
use Rattle.itv_base.specs.declared.names.EventId.{EventId}
use Rattle.event_graph.specs.Bounds.{IsGreatest, IsInconsistent, IsRay}
use Rattle.event_graph.specs.Network.{Net}
use Rattle.event_graph.specs.Satisfying.{Satisfies}
use Rattle.event_graph.specs.Times.{separation, time_of}
use Rattle.falling.specs.declared.answer.Fallen.{Fallen}
use Rattle.falling.specs.declared.answer.Fallen.TheVariants.{Closed, Unbounded, Inconsistent, Spent}
use Rattle.falling.specs.declared.asked.Asked.{Asked}
use Rattle.falling.specs.declared.limits.Limits.{Limits}
use Rattle.falling.specs.declared.line.FallLine.{FallLine}
use Rattle.falling.specs.declared.view.View.TheVariants.{Plain, Negated}
use Rattle.falling.specs.Agenda.{Agenda, IsAgendaFor}
use Rattle.falling.specs.Cap.{enough_limit, enough_turns}
use Rattle.falling.specs.DerivationEnds.{AreLimits, IsSpent}
use Rattle.falling.specs.Derivation.{IsDerivation, IsEnded}
use Rattle.falling.specs.Fallen.{IsFallenAnswer}
use Rattle.falling.specs.Kinds.{negated, negated_times}
use Rattle.falling.specs.View.{IsViewOf}

-- the state of a solver: the negation, if it is the network that is solved; the limits; a number of turns that is enough; the agenda; the times, the ray
-- and the turns of the last answer
pub record FallingView : Type 0 where
  pub negation : Option Net
  pub limits : Limits
  pub enough : ℕ
  pub agenda : Agenda
  pub times : List ℤ
  pub ray : List Bool
  pub turns : ℕ

-- a network of the plain view is solved itself, and a network of the negated view by its negation
abbrev pub IsNegationOf : Net → Option Net → Type 0
IsNegationOf net None = IsViewOf net Plain
IsNegationOf net (Some negation) = (negation ≡ negated net) × IsViewOf net Negated

-- the network that is solved: the negation, where there is one
abbrev pub solved : Net → Option Net → Net
solved net None = net
solved net (Some negation) = negation

-- a solver made for a network
pub record IsMadeFor (net : Net) (solving : FallingView) : Type 0 where
  pub negation : IsNegationOf net solving.negation
  pub limits : AreLimits net solving.limits
  pub enough : solving.enough ≡ enough_turns net
  pub most : solving.enough ≤ enough_limit
  pub agenda : IsAgendaFor (solved net solving.negation) solving.agenda
  pub times : length solving.times ≡ net.events
  pub ray : length solving.ray ≡ net.events

-- the value is the greatest separation, the times satisfy and attain it, and the lines are a derivation in the negation from the to-event, which gives the
-- value to the from-event and gives each event minus its time
pub record IsClosedByNegation (net : Net) (from to : EventId) (value : ℤ) (lines : List FallLine) (times : List ℤ) : Type 0 where
  pub greatest : IsGreatest net from to value
  pub satisfies : Satisfies times net
  pub attained : separation times from to ≡ value
  pub derivation : (values : List ℤ) × IsDerivation (negated net) to lines values × (times ≡ negated_times values) × (time_of values from ≡ value)

-- the times satisfy, and the events of the ray can be raised from them without end; the lines are a derivation in the negation from the to-event, which
-- gives each event minus its time
pub record IsUnboundedByNegation (net : Net) (from to : EventId) (lines : List FallLine) (times : List ℤ) (ray : List Bool) : Type 0 where
  pub satisfies : Satisfies times net
  pub raised : IsRay net from to times ray
  pub derivation : (values : List ℤ) × IsDerivation (negated net) to lines values × (times ≡ negated_times values)

-- no times satisfy, and the lines are a derivation in the negation from the to-event that ends
pub record IsInconsistentByNegation (net : Net) (to : EventId) (lines : List FallLine) : Type 0 where
  pub none : IsInconsistent net
  pub derivation : (values : List ℤ) × IsDerivation (negated net) to lines values × IsEnded (negated net) to values

-- the lines are a derivation in the negation from the to-event of as many lines as turns, and one more line is allowed; the turns are fewer than enough
pub record HasSpentTurnsByNegation (net : Net) (to : EventId) (turns : ℕ) (lines : List FallLine) : Type 0 where
  pub spent : (values : List ℤ) × IsSpent (negated net) to turns lines values
  pub few : turns < enough_turns net

-- what an answer says of a pair of a negatable network
abbrev pub AnswersByNegation : Net → Asked → List FallLine → List ℤ → List Bool → Fallen → Type 0
AnswersByNegation net asked lines times ray (Closed value) = IsClosedByNegation net asked.from asked.to value lines times
AnswersByNegation net asked lines times ray Unbounded = IsUnboundedByNegation net asked.from asked.to lines times ray
AnswersByNegation net asked lines times ray Inconsistent = IsInconsistentByNegation net asked.to lines
AnswersByNegation net asked lines times ray Spent = HasSpentTurnsByNegation net asked.to asked.turns lines

-- what an answer says of a pair, according to whether the negation was solved
abbrev pub AnswersAs : Option Net → Net → Asked → List FallLine → List ℤ → List Bool → Fallen → Type 0
AnswersAs None net asked lines times ray answer = IsFallenAnswer net asked lines times ray answer
AnswersAs (Some negation) net asked lines times ray answer = AnswersByNegation net asked lines times ray answer

-- the lines are a derivation in the network from the from-event, or in the negation from the to-event
abbrev pub IsDerivationAs : Option Net → Net → EventId → EventId → List FallLine → List ℤ → Type 0
IsDerivationAs None net from to lines values = IsDerivation net from lines values
IsDerivationAs (Some negation) net from to lines values = IsDerivation (negated net) to lines values
