-- The faults of a netlist with its sheets.
use Rattle.std.specs.Prelude.{Bool, true, false}
use Rattle.sheet.specs.declared.groups.GroupFault.{GroupFault}
use Rattle.sheet.specs.declared.groups.GroupFault.TheVariants as group
use Rattle.compose.specs.declared.fault.JoinFault.{JoinFault}
use Rattle.compose.specs.declared.fault.JoinFault.TheVariants.{NoPart, NoPin, MarkCounts, KindsDiffer, WireNoPart, WireNoMark, TooManyCauses, NoMemory}

-- there was not enough memory, which says nothing of the netlist
abbrev pub is_memory : JoinFault → Bool
is_memory (NoPart net pin) = false
is_memory (NoPin net pin) = false
is_memory (MarkCounts net pin driver other) = false
is_memory (KindsDiffer net pin mark) = false
is_memory (WireNoPart wire) = false
is_memory (WireNoMark wire) = false
is_memory (TooManyCauses wire) = false
is_memory NoMemory = true

-- the fault of wires as a fault of the netlist: a wire is one cause too many for its rule, or memory was not found
abbrev pub join_fault : GroupFault → JoinFault
join_fault (group.TooManyCauses n) = TooManyCauses n
join_fault group.NoMemory = NoMemory
