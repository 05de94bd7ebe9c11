use Rattle.std.proofs.Common.{◌≡◌, ◌++◌, take}
use Rattle.unroll.specs.Step.Labels.{labels_from}
use Rattle.unroll.proofs.names.push_parts.Given as goal

abbrev pub invariant-loop-part : goal.invariant-loop-part
invariant-loop-part l = l.labels.items ≡ l.initial.labels.items ++ labels_from l.cycle 0 (take l.part l.design.sheets)
