use Rattle.std.proofs.Common.{take}
use Rattle.std.specs.List.{AllZip}
use Rattle.extremes.specs.Ready.{AreTurnsOf}
use Rattle.margins.specs.Ends.{AreBothFound}
use Rattle.margins.proofs.ends.find_ends.Given as goal

-- the numbers so far
abbrev pub invariant-loop-k : goal.invariant-loop-k
invariant-loop-k l = record { ends : AllZip (AreBothFound l.drawn l.budget) (take l.k l.seen) l.ends.items; turns : AreTurnsOf l.fn.turns l.turns }
