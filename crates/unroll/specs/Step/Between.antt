-- Rules and rows between marks with numbers below a given one.
use Rattle.std.specs.Prelude.{◌<◌, ℕ, length, All}
use Rattle.sheet.specs.declared.row.SheetRow.{SheetRow}
use Rattle.sheet.specs.declared.rule.RuleCause.{RuleCause}
use Rattle.sheet.specs.Rule.{RuleView}
use Rattle.sheet.specs.Whole.{IsCauseCount}

pub record IsRuleBetween (marks : ℕ) (rule : RuleView) : Type 0 where
  pub target : rule.target < marks
  pub causes : All (λ (source : RuleCause). source.mark < marks) rule.causes
  pub count : IsCauseCount rule.kind (length rule.causes)

pub record IsRowBetween (marks : ℕ) (row : SheetRow) : Type 0 where
  pub from : row.from < marks
  pub to : row.to < marks
