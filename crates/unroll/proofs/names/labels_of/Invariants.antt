use Rattle.std.proofs.Common.{◌≡◌}
use Rattle.unroll.specs.Cycles.{in_cycles}
use Rattle.unroll.specs.Step.Labels.{labels_from}
use Rattle.unroll.proofs.names.labels_of.Given as goal

abbrev pub invariant-loop-cycle : goal.invariant-loop-cycle
invariant-loop-cycle l = l.labels.items ≡ in_cycles (λ cycle. labels_from cycle 0 l.design.sheets) l.cycle
