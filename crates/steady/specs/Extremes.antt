-- What is found of the greatest or the least separation of a pair of events, and of a row over the cycles of a run.
use Rattle.std.specs.Prelude.{◌≡◌, ◌<◌, ◌≤◌, ℕ, ℤ, Bool, true, false, List, int_lt}
use Rattle.itv_base.specs.declared.names.EventId.{EventId}
use Rattle.itv_base.specs.declared.names.Side.{Side}
use Rattle.itv_base.specs.declared.names.Side.TheVariants.{Lower, Upper}
use Rattle.event_graph.specs.Bounds.{IsUnbounded}
use Rattle.event_graph.specs.Network.{Net}
use Rattle.event_graph.specs.Satisfying.{Satisfies}
use Rattle.event_graph.specs.Times.{IsTime, separation}
use Rattle.sheet.specs.declared.row.SheetRow.{SheetRow}
use Rattle.longer_runs.specs.Always.{IsExtreme, IsNotPast}
use Rattle.longer_runs.specs.Windows.{EverySeparation, from_in, to_in}
use Rattle.steady.specs.declared.extreme.Extreme.{Extreme}
use Rattle.steady.specs.declared.extreme.Extreme.TheVariants.{Closed, Unbounded, Open}

-- satisfying separations of a pair go past every number on a side
abbrev pub IsUnboundedOn : Side → Net → EventId → EventId → Type 0
IsUnboundedOn Upper net from to = IsUnbounded net from to
IsUnboundedOn Lower net from to = IsUnbounded net to from

-- the number is the greatest or the least separation of a pair, and these satisfying times attain it; it is below 2^61 in absolute value
pub record IsAttainedExtreme (side : Side) (net : Net) (from to : EventId) (value : ℤ) (times : List ℤ) : Type 0 where
  pub extreme : IsExtreme side net from to value
  pub satisfied : Satisfies times net
  pub attained : separation times from to ≡ value
  pub within : IsTime value

-- what is found of the greatest or the least separation of a pair is so
abbrev pub IsExtremeFound : Side → Net → EventId → EventId → Extreme → Type 0
IsExtremeFound side net from to (Closed value times) = IsAttainedExtreme side net from to value times.items
IsExtremeFound side net from to Unbounded = IsUnboundedOn side net from to
IsExtremeFound side net from to Open = Unit {0}

abbrev pub is_open : Extreme → Bool
is_open (Closed value times) = false
is_open Unbounded = false
is_open Open = true

-- ---- over the cycles of a run

-- Of the cycles from one on and before another, one has this greatest or least separation of a row, and none has one past it. The times attain it.
pub record IsFurthestIn (side : Side) (net : Net) (marks : ℕ) (row : SheetRow) (start before : ℕ) (value : ℤ) (times : List ℤ) : Type 0 where
  pub cycle : ℕ
  pub from : start ≤ cycle
  pub less : cycle < before
  pub extreme : IsAttainedExtreme side net (from_in marks cycle row) (to_in marks cycle row) value times
  pub kept : (other : ℕ) → start ≤ other → other < before → EverySeparation (IsNotPast side value) net (from_in marks other row) (to_in marks other row)

-- in one of the cycles from one on and before another the separation of a row is unbounded
pub record IsUnboundedIn (side : Side) (net : Net) (marks : ℕ) (row : SheetRow) (start before : ℕ) : Type 0 where
  pub cycle : ℕ
  pub from : start ≤ cycle
  pub less : cycle < before
  pub unbounded : IsUnboundedOn side net (from_in marks cycle row) (to_in marks cycle row)

-- what is found of a row over the cycles from one on and before another
abbrev pub IsFurthest : Side → Net → ℕ → SheetRow → ℕ → ℕ → Extreme → Type 0
IsFurthest side net marks row start before (Closed value times) = IsFurthestIn side net marks row start before value times.items
IsFurthest side net marks row start before Unbounded = IsUnboundedIn side net marks row start before
IsFurthest side net marks row start before Open = Unit {0}

-- the second number is past the first on a side
abbrev pub is_past : Side → ℤ → ℤ → Bool
is_past Upper value other = int_lt value other
is_past Lower value other = int_lt other value

-- Which of two goes further on a side. What is unbounded goes furthest, and what was left open goes further than any number.
abbrev pub is_further : Side → Extreme → Extreme → Bool
is_further side Unbounded other = false
is_further side Open Unbounded = true
is_further side Open (Closed value times) = false
is_further side Open Open = false
is_further side (Closed value times) (Closed other more) = is_past side value other
is_further side (Closed value times) Unbounded = true
is_further side (Closed value times) Open = true
