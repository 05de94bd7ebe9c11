-- A rule, without where it lies in memory.
use Rattle.std.specs.Prelude.{ℕ, List}
use Rattle.itv_base.specs.declared.names.RuleKind.{RuleKind}
use Rattle.sheet.specs.declared.rule.RuleCause.{RuleCause}

-- how the causes are read, the number of the target mark, and the causes
pub record RuleView : Type 0 where
  pub kind : RuleKind
  pub target : ℕ
  pub causes : List RuleCause
