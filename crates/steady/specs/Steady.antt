-- Steady times of some rules: each mark comes again in each cycle, a period later.
use Rattle.std.specs.Prelude.{◌≡◌, ℕ, ℤ, List, All, length, map}
use Rattle.event_graph.specs.Network.{Net}
use Rattle.event_graph.specs.Satisfying.{Satisfies}
use Rattle.sheet.specs.declared.row.SheetRow.{SheetRow}
use Rattle.sheet.specs.Rule.{RuleView}
use Rattle.longer_runs.specs.PeriodLaws.{IsRowInStep, separation_in}
use Rattle.longer_runs.specs.Periods.{IsInStep, constraint_folded}

-- one cycle of so many marks with all these rules; a cause of an earlier cycle is the mark of this cycle, so many periods before
abbrev pub folded_rules : List ℤ → ℕ → List RuleView → Net
folded_rules each marks rules = record { events = marks; constraints = map (constraint_folded each) rules }

-- a period for each of so many marks, one for the marks that a rule joins
pub record AreInStep (each : List ℤ) (marks : ℕ) (rules : List RuleView) : Type 0 where
  pub count : length each ≡ marks
  pub in_step : All (IsInStep each) rules

-- times of one cycle that come again with these periods
pub record IsPeriodOf (each times : List ℤ) (marks : ℕ) (rules : List RuleView) : Type 0 where
  pub steps : AreInStep each marks rules
  pub satisfied : Satisfies times (folded_rules each marks rules)

-- some steady times have this separation of a row, in each cycle
pub record AttainSteadily (marks : ℕ) (rules : List RuleView) (row : SheetRow) (value : ℤ) : Type 0 where
  pub each : List ℤ
  pub times : List ℤ
  pub period : IsPeriodOf each times marks rules
  pub in_step : IsRowInStep each row
  pub separates : separation_in each times row ≡ value
