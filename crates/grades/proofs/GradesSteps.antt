-- The grades of a tree, step by step.
use Rattle.std.proofs.Common.{◌≡◌, List, [], Option, Some, None, Ok, Err, refl}
use Rattle.std.specs.Prelude.{codes}
use Rattle.serde_json.specs.Data.{Data}
use Rattle.serde_json.specs.Find.{get}
use Rattle.itv_base.specs.Reading.{IsReadingFault, walk}
use Rattle.grades.specs.declared.fault.GradesFault.{GradesFault}
use Rattle.grades.specs.declared.fault.GradesFault.TheVariants.{Grades}
use Rattle.grades.specs.declared.grade.Grade.{Grade}
use Rattle.grades.specs.Fault.{is_memory}
use Rattle.grades.specs.Grades.{grades_of, written_grades, with_grade}

module _ (tree : Data) where
  pub written-none : written_grades (get (codes "itv_grades") tree) ≡ None → grades_of tree ≡ Err Grades
  unfolding grades_of
  written-none none = rw none refl

  pub written-some : (written : List Grade) → written_grades (get (codes "itv_grades") tree) ≡ Some written → grades_of tree ≡ walk with_grade 0 [] written
  unfolding grades_of
  written-some written is = rw is refl

  pub ranged-fault : (written : List Grade) → written_grades (get (codes "itv_grades") tree) ≡ Some written → (fault : GradesFault)
      → IsReadingFault is_memory (walk with_grade 0 [] written) fault → IsReadingFault is_memory (grades_of tree) fault
  ranged-fault written is fault h = rw (written-some written is) h
