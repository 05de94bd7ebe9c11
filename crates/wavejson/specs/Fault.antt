-- The faults of a tree.
use Rattle.std.specs.Prelude.{Bool, true, false}
use Rattle.wavejson.specs.declared.fault.DiagramFault.{DiagramFault}
use Rattle.wavejson.specs.declared.fault.DiagramFault.TheVariants.{NotObject, NoSignal, EdgesNotList, EdgeNotText, NoMemory}

-- there was not enough memory; this says nothing of the tree
abbrev pub is_memory : DiagramFault → Bool
is_memory NotObject = false
is_memory NoSignal = false
is_memory EdgesNotList = false
is_memory (EdgeNotText place) = false
is_memory NoMemory = true
