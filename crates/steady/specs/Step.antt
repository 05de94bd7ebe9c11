-- Words of private contracts.
use Rattle.std.specs.Prelude.{◌≡◌, ◌<◌, ◌≤◌, ◌+◌, ◌*◌, ℕ, ℤ, List, All, Option, None, Some, IfSome}
use Rattle.std.specs.List.{AllZip}
use Rattle.itv_base.specs.declared.limits.TheConstants.{MAX_BUDGET, MAX_EVENTS}
use Rattle.itv_base.specs.declared.names.Side.{Side}
use Rattle.itv_base.specs.declared.names.Side.TheVariants.{Lower, Upper}
use Rattle.event_graph.specs.Bounds.{IsInconsistent}
use Rattle.event_graph.specs.Network.{Net}
use Rattle.event_graph.specs.Satisfying.{Satisfies}
use Rattle.extremes.specs.Ready.{IsReady}
use Rattle.sheet.specs.declared.row.SheetRow.{SheetRow}
use Rattle.sheet.specs.Rule.{RuleView}
use Rattle.unroll.specs.Step.Between.{IsRowBetween, IsRuleBetween}
use Rattle.longer_runs.specs.PeriodLaws.{IsRowInStep, separation_in}
use Rattle.steady.specs.declared.design_run.DesignRun.{DesignRun}
use Rattle.steady.specs.declared.extreme.Extreme.{Extreme}
use Rattle.steady.specs.declared.extreme.Extreme.TheVariants as extremes
use Rattle.steady.specs.declared.folded.Folded.{Folded}
use Rattle.steady.specs.declared.found.RunBound.{RunBound}
use Rattle.steady.specs.declared.found.RunBound.TheVariants.{Closed, Unbounded, Open}
use Rattle.steady.specs.declared.found.RowFound.{RowFound}
use Rattle.steady.specs.declared.found.RunFound.{RunFound}
use Rattle.steady.specs.declared.found.RunFound.TheVariants as found
use Rattle.steady.specs.declared.period.Period.{Period}
use Rattle.steady.specs.declared.rows.Steadying.{Steadying}
use Rattle.steady.specs.Extremes.{IsFurthestIn, IsUnboundedIn}
use Rattle.steady.specs.Steady.{AreInStep, AttainSteadily, IsPeriodOf, folded_rules}

-- a run whose rules and rows are between its marks, and whose rows have their from-events in the first cycle that is asked for or a later one
pub record IsWholeRun (run : DesignRun) : Type 0 where
  pub few : run.marks ≤ MAX_EVENTS
  pub rules : All (IsRuleBetween run.marks) run.rules.items
  pub rows : All (IsRowBetween run.marks) run.rows.items
  pub reach : All (λ (row : SheetRow). run.from + row.shift < run.cycles) run.rows.items
  pub events : run.drawn.net.events ≡ run.cycles * run.marks

-- one cycle of these rules, which was found consistent
pub record IsFoldedFor (marks : ℕ) (rules : List RuleView) (folded : Folded) : Type 0 where
  pub steps : AreInStep folded.each.items marks rules
  pub net : folded.net ≡ folded_rules folded.each.items marks rules
  pub ready : IsReady folded.net folded.extremes

-- what is found of a row is so in the network of the run
abbrev pub IsBoundIn : Side → DesignRun → SheetRow → RunBound → Type 0
IsBoundIn side run row (Closed value steady) = ((times : List ℤ) × IsFurthestIn side run.drawn.net run.marks row (run.from + row.shift) run.cycles value times)
    × IfSome steady (AttainSteadily run.marks run.rules.items row)
IsBoundIn side run row Unbounded = IsUnboundedIn side run.drawn.net run.marks row (run.from + row.shift) run.cycles
IsBoundIn side run row Open = Unit {0}

pub record IsRowIn (run : DesignRun) (row : SheetRow) (found : RowFound) : Type 0 where
  pub greatest : IsBoundIn Upper run row found.greatest
  pub least : IsBoundIn Lower run row found.least

abbrev pub IsSteadyIn : DesignRun → Option Period → Type 0
IsSteadyIn run None = Unit {0}
IsSteadyIn run (Some period) = IsPeriodOf period.each.items period.times.items run.marks run.rules.items

pub record IsConsistentIn (run : DesignRun) (period : Option Period) (rows : List RowFound) : Type 0 where
  pub times : List ℤ
  pub satisfied : Satisfies times run.drawn.net
  pub steady : IsSteadyIn run period
  pub found : AllZip (IsRowIn run) run.rows.items rows

abbrev pub IsFoundIn : DesignRun → RunFound → Type 0
IsFoundIn run found.Inconsistent = IsInconsistent run.drawn.net
IsFoundIn run (found.Consistent period rows) = IsConsistentIn run period rows.items
IsFoundIn run found.Open = Unit {0}

-- steady times in one cycle with these periods have this separation of a row
pub record SeparateIn (net : Net) (each : List ℤ) (row : SheetRow) (value : ℤ) : Type 0 where
  pub times : List ℤ
  pub satisfied : Satisfies times net
  pub in_step : IsRowInStep each row
  pub separates : separation_in each times row ≡ value

-- a number was found
abbrev pub IsClosedAt : Extreme → ℤ → Type 0
IsClosedAt (extremes.Closed value times) other = value ≡ other
IsClosedAt extremes.Unbounded other = ⊥
IsClosedAt extremes.Open other = ⊥

-- the memory for steady times of a run
pub record IsSteadying (run : DesignRun) (steadying : Steadying) : Type 0 where
  pub least : 1 ≤ steadying.budget
  pub most : steadying.budget ≤ MAX_BUDGET
  pub first : IfSome steadying.first (IsFoldedFor run.marks run.rules.items)

-- the periods of one cycle with some times that satisfy it
pub record IsPeriodIn (net : Net) (each : List ℤ) (period : Period) : Type 0 where
  pub same : period.each.items ≡ each
  pub satisfied : Satisfies period.times.items net
