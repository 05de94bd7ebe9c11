use Rattle.std.proofs.Common.{IsSome}
use Rattle.diff_bounds.specs.Standing.{Stands}
use Rattle.parts.proofs.bounds.take_rows.Given as goal

-- the bounds stand on the network, from a source
abbrev pub invariant-loop-row : goal.invariant-loop-row
invariant-loop-row l = Stands l.net l.bounds × IsSome l.bounds.source
