-- The faults of a tree.
use Rattle.std.specs.Prelude.{Bool, true, false}
use Rattle.netlist.specs.declared.fault.NetlistFault.{NetlistFault}
use Rattle.netlist.specs.declared.fault.NetlistFault.TheVariants.{NotObject, Version, Cycles, PartsNotList, TooManyParts, Part, DoublePart, TooManySheets, NetsNotList, Net, Delay, EdgesNotList, Edge, Label, NoMemory}

-- memory ran out, which says nothing of the tree
abbrev pub is_memory : NetlistFault → Bool
is_memory NotObject = false
is_memory Version = false
is_memory Cycles = false
is_memory PartsNotList = false
is_memory (TooManyParts count) = false
is_memory (Part n) = false
is_memory (DoublePart n) = false
is_memory (TooManySheets count) = false
is_memory NetsNotList = false
is_memory (Net n) = false
is_memory (Delay n fault) = false
is_memory EdgesNotList = false
is_memory (Edge n) = false
is_memory (Label n fault) = false
is_memory NoMemory = true
