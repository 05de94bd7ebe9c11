-- The one cycle of a period as a design may draw it: rules without shifts.
use Rattle.std.specs.Prelude.{◌≡◌, ℕ, ℤ, List, map}
use Rattle.sheet.specs.declared.rule.RuleCause.{RuleCause}
use Rattle.sheet.specs.Rule.{RuleView}
use Rattle.unroll.specs.Cycles.{constraints_of}
use Rattle.longer_runs.specs.Periods.{constraint_folded, period_at, range_folded}

-- a cause of the same cycle in place of one some cycles before
abbrev pub source_folded : ℤ → RuleCause → RuleCause
source_folded period source = record { mark = source.mark; shift = 0; range = range_folded period source; origin = source.origin }

-- a rule whose causes are all in the cycle of its target
abbrev pub rule_folded : List ℤ → RuleView → RuleView
rule_folded each rule = record { kind = rule.kind; target = rule.target; causes = map (source_folded (period_at each rule.target)) rule.causes }

-- one cycle of the folded rules draws the one cycle of the period
abbrev pub FoldedIsDrawn : Type 0
FoldedIsDrawn = (each : List ℤ) (marks : ℕ) (rules : List RuleView) → constraints_of marks (map (rule_folded each) rules) 1 ≡ map (constraint_folded each) rules
