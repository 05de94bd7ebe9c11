use Rattle.std.proofs.Common.{◌≡◌, map, take}
use Rattle.netlist.specs.declared.part.Part.{Part}
use Rattle.compose.proofs.composing.names_of.Given as goal

abbrev pub invariant-loop-part : goal.invariant-loop-part
invariant-loop-part l = l.names ≡ map (λ (part : Part). part.name) (take l.part-index l.parts)
