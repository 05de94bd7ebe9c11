use Rattle.std.proofs.Common.{map}
use Rattle.compose.proofs.WireWalk.{WiresRead}
use Rattle.compose.proofs.wires.read_wires.Given as goal

abbrev pub invariant-loop-n : goal.invariant-loop-n
invariant-loop-n l = WiresRead l.parts (map (λ s. s.now) l.sheets) l.wires l.n l.rules.items l.places l.rows
