-- What an answer says, with the lines of its derivation.
use Rattle.std.specs.Prelude.{◌≡◌, ◌<◌, ℕ, ℤ, Bool, List}
use Rattle.itv_base.specs.declared.names.EventId.{EventId}
use Rattle.event_graph.specs.Bounds.{IsGreatest, IsInconsistent, IsRay}
use Rattle.event_graph.specs.Network.{Net}
use Rattle.event_graph.specs.Satisfying.{Satisfies}
use Rattle.event_graph.specs.Times.{separation, time_of}
use Rattle.falling.specs.declared.answer.Fallen.{Fallen}
use Rattle.falling.specs.declared.answer.Fallen.TheVariants.{Closed, Unbounded, Inconsistent, Spent}
use Rattle.falling.specs.declared.asked.Asked.{Asked}
use Rattle.falling.specs.declared.line.FallLine.{FallLine}
use Rattle.falling.specs.Cap.{enough_turns}
use Rattle.falling.specs.DerivationEnds.{IsSpent}
use Rattle.falling.specs.Derivation.{IsDerivation, IsEnded}

-- the value is the greatest separation, the times satisfy and attain it, and the lines are a derivation that gives it to the to-event
pub record IsClosedAt (net : Net) (from to : EventId) (value : ℤ) (lines : List FallLine) (times : List ℤ) : Type 0 where
  pub greatest : IsGreatest net from to value
  pub satisfies : Satisfies times net
  pub attained : separation times from to ≡ value
  pub derivation : IsDerivation net from lines times
  pub derived : time_of times to ≡ value

-- the times satisfy, and the events of the ray can be raised from them without end
pub record IsShownUnbounded (net : Net) (from to : EventId) (lines : List FallLine) (times : List ℤ) (ray : List Bool) : Type 0 where
  pub satisfies : Satisfies times net
  pub raised : IsRay net from to times ray
  pub derivation : IsDerivation net from lines times

-- no times satisfy, and the lines are a derivation that ends
pub record IsShownInconsistent (net : Net) (from : EventId) (lines : List FallLine) : Type 0 where
  pub none : IsInconsistent net
  pub derivation : (values : List ℤ) × IsDerivation net from lines values × IsEnded net from values

-- the lines are a derivation of as many lines as turns, and one more line is allowed; the turns are fewer than enough
pub record HasSpentTurns (net : Net) (from : EventId) (turns : ℕ) (lines : List FallLine) (values : List ℤ) : Type 0 where
  pub spent : IsSpent net from turns lines values
  pub few : turns < enough_turns net

-- a pair of events is asked for, and the derivation may have so many lines
abbrev pub asked_of : EventId → EventId → ℕ → Asked
asked_of from to turns = record { from = from; to = to; turns = turns }

-- what an answer says of a pair of a plain network
abbrev pub IsFallenAnswer : Net → Asked → List FallLine → List ℤ → List Bool → Fallen → Type 0
IsFallenAnswer net asked lines times ray (Closed value) = IsClosedAt net asked.from asked.to value lines times
IsFallenAnswer net asked lines times ray Unbounded = IsShownUnbounded net asked.from asked.to lines times ray
IsFallenAnswer net asked lines times ray Inconsistent = IsShownInconsistent net asked.from lines
IsFallenAnswer net asked lines times ray Spent = HasSpentTurns net asked.from asked.turns lines times
