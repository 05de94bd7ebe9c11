-- What the steps of job settle promise one another.
use Rattle.std.specs.Prelude.{◌+◌, ◌*◌, ◌≤◌, ℕ, ℤ, pos, neg_ℤ, ◌≤ℤ◌, ◌<ℤ◌, Bool, List, All}
use Rattle.itv_base.specs.declared.names.EventId.{EventId}
use Rattle.event_graph.specs.Network.{Net}
use Rattle.event_graph.specs.Times.{separation}
use Rattle.falling.specs.Cap.{cap_limit}
use Rattle.slack_report.specs.declared.words.Which.{Which}
use Rattle.slack_report.specs.declared.words.Which.TheVariants.{Max, Min}
use Rattle.drawn_networks.specs.declared.row.Row.{Row}
use Rattle.job_settle.specs.declared.bound.SettledBound.{SettledBound}
use Rattle.job_settle.specs.declared.bound.SettledBound.TheVariants as settled
use Rattle.settle.specs.declared.run_turns.RunTurns.{RunTurns}
use Rattle.job_settle.specs.Answers.{ArePrintedTimes, IsBound}

-- the pair whose greatest separation is searched for a bound of a row; for a least bound it is the reversed pair
abbrev pub source : Which → Row → EventId
source Max row = row.from
source Min row = row.to

abbrev pub target : Which → Row → EventId
target Max row = row.to
target Min row = row.from

-- the bound that the greatest separation of the searched pair gives
abbrev pub shown_by : Which → ℤ → ℤ
shown_by Max value = value
shown_by Min value = neg_ℤ value

-- a time is within twice the greatest cap in absolute value, as the difference of two near times is
abbrev pub IsNearTime : ℤ → Type 0
IsNearTime time = (neg_ℤ (pos (2 * cap_limit)) ≤ℤ time) × (time ≤ℤ pos (2 * cap_limit))

-- the times of a bound are near times
abbrev pub HasNearby : SettledBound → Type 0
HasNearby (settled.Closed value times proof) = All IsNearTime times.items
HasNearby (settled.Unbounded times ray) = All IsNearTime times.items
HasNearby settled.Open = Unit {0}

-- a bound that was found, with its proof or without; its times are near times
abbrev pub IsFoundBound : Net → Which → Row → SettledBound → Type 0
IsFoundBound net which row value = ((cert : Bool) × IsBound cert net which row value) × HasNearby value

-- some separation of the searched pair exceeds a limit; the found bound shows it
abbrev pub IsBeyond : Which → SettledBound → ℤ → Type 0
IsBeyond which (settled.Closed value times proof) limit = limit <ℤ shown_by which value
IsBeyond which (settled.Unbounded times ray) limit = Unit {0}
IsBeyond which settled.Open limit = ⊥

-- the printed times satisfy, with the from-event at 0, and their separation of the searched pair exceeds a limit
pub record ArePast (net : Net) (which : Which) (row : Row) (limit : ℤ) (times : List ℤ) : Type 0 where
  pub are_times : ArePrintedTimes net row.from times
  pub past : limit <ℤ separation times (source which row) (target which row)

-- a search that may take so many turns made so many lines, and took at least as many of the turns that were left of the run
abbrev pub Took : ℕ → ℕ → RunTurns → RunTurns → Type 0
Took turns lines old new = (lines ≤ turns) × (lines + new.left ≤ old.left)
