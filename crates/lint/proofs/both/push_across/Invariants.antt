use Rattle.std.proofs.Common.{◌≡◌, ◌++◌, take}
use Rattle.std.specs.List.{flat_map}
use Rattle.lint.specs.Step.{lead_met}
use Rattle.lint.proofs.both.push_across.Given as goal

abbrev pub invariant-loop-lead : goal.invariant-loop-lead
invariant-loop-lead l = l.warnings.items ≡ l.initial.warnings.items ++ flat_map (lead_met l.tables l.texts) (take l.lead-index l.leads)
