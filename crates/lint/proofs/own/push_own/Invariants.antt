use Rattle.std.proofs.Common.{◌≡◌, ◌++◌, take}
use Rattle.std.specs.Prelude.{slice_get}
use Rattle.std.specs.List.{flat_map}
use Rattle.lint.specs.declared.lead.Lead.{Lead}
use Rattle.lint.specs.Step.{own_on}
use Rattle.lint.proofs.own.push_own.Given as goal

abbrev pub invariant-loop-join : goal.invariant-loop-join
invariant-loop-join l = l.warnings.items ≡ l.initial.warnings.items ++ flat_map (λ (lead : Lead). own_on lead (slice_get l.design.sheets lead.to.part)) (take l.join-index l.joins)
