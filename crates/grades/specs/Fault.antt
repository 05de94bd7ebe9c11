-- The faults of the grades of a tree.
use Rattle.std.specs.Prelude.{Bool, true, false}
use Rattle.grades.specs.declared.fault.GradesFault.{GradesFault}
use Rattle.grades.specs.declared.fault.GradesFault.TheVariants.{Grades, Limits, NoMemory}

-- there was not enough memory, which says nothing of the tree
abbrev pub is_memory : GradesFault → Bool
is_memory Grades = false
is_memory (Limits grade parameter fault) = false
is_memory NoMemory = true
