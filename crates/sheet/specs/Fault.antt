-- The faults of a drawing.
use Rattle.std.specs.Prelude.{Bool, true, false}
use Rattle.sheet.specs.declared.fault.SheetFault.{SheetFault}
use Rattle.sheet.specs.declared.fault.SheetFault.TheVariants.{BadNode, DoubleMark, DoublePin, BadEdge, Label, NoMark, TooManyCauses, NoGrade, NoParam, NoMemory}
use Rattle.sheet.specs.declared.groups.GroupFault.{GroupFault}
use Rattle.sheet.specs.declared.groups.GroupFault.TheVariants as group

-- there was not enough memory; this says nothing of the drawing
abbrev pub is_memory : SheetFault → Bool
is_memory (BadNode lane) = false
is_memory (DoubleMark mark) = false
is_memory (DoublePin lane) = false
is_memory (BadEdge n) = false
is_memory (Label n fault) = false
is_memory (NoMark n mark) = false
is_memory (TooManyCauses n) = false
is_memory NoGrade = false
is_memory (NoParam n) = false
is_memory NoMemory = true

-- the fault of a group as a fault of a drawing
abbrev pub sheet_fault : GroupFault → SheetFault
sheet_fault (group.TooManyCauses n) = TooManyCauses n
sheet_fault group.NoMemory = NoMemory
