use Rattle.std.proofs.Common.{◌≡◌, ◌++◌, map, take}
use Rattle.unroll.specs.Step.Labels.{label_of}
use Rattle.unroll.proofs.names.push_marks.Given as goal

abbrev pub invariant-loop-mark : goal.invariant-loop-mark
invariant-loop-mark l = l.labels.items ≡ l.initial.labels.items ++ map (label_of l.part l.cycle) (take l.mark-index l.marks)
