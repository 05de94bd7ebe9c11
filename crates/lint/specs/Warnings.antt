-- What in a design may say something else than was meant: all warnings in their order.
use Rattle.std.specs.Prelude.{List, ◌++◌}
use Rattle.compose.specs.Design.{DesignView}
use Rattle.design_plan.specs.Plan.{PlanView}
use Rattle.lint.specs.declared.warning.Warning.{Warning}
use Rattle.lint.specs.Driven.{join_warnings}
use Rattle.lint.specs.Periods.{period_warnings}
use Rattle.lint.specs.Rules.{both_warnings, row_warnings, single_warnings}
use Rattle.lint.specs.Texts.{text_warnings}
use Rattle.lint.specs.Units.{unit_warnings}

abbrev pub rule_warnings : PlanView → DesignView → List Warning
rule_warnings plan d = unit_warnings plan d ++ (both_warnings plan d ++ (single_warnings d ++ period_warnings d))

abbrev pub warnings_of : PlanView → DesignView → List Warning
warnings_of plan d = row_warnings d ++ (text_warnings plan d ++ (rule_warnings plan d ++ join_warnings d))
