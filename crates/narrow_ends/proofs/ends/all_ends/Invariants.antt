use Rattle.std.proofs.Common.{◌≡◌, All}
use Rattle.narrow_ends.specs.Ends.{ends_below}
use Rattle.narrow_ends.specs.Step.{HasEnd}
use Rattle.narrow_ends.proofs.ends.all_ends.Given as goal

-- the ends of the constraints so far
abbrev pub invariant-loop-constraint : goal.invariant-loop-constraint
invariant-loop-constraint l = record { ends : l.names.items ≡ ends_below l.drawn l.constraint; there : All (HasEnd l.drawn) l.names.items }
