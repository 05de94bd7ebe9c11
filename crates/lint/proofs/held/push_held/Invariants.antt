use Rattle.std.proofs.Common.{◌≡◌, ◌++◌, take}
use Rattle.std.specs.List.{flat_map}
use Rattle.lint.specs.Driven.{lead_held}
use Rattle.lint.proofs.held.push_held.Given as goal

abbrev pub invariant-loop-lead : goal.invariant-loop-lead
invariant-loop-lead l = l.warnings.items ≡ l.initial.warnings.items ++ flat_map (lead_held l.design.sheets) (take l.lead-index l.leads)
