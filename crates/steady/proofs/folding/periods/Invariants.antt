use Rattle.std.proofs.Common.{◌≡◌}
use Rattle.longer_runs.specs.Periods.{periods}
use Rattle.steady.proofs.folding.periods.Given as goal

abbrev pub invariant-loop-done : goal.invariant-loop-done
invariant-loop-done l = l.total ≡ periods l.period l.done
