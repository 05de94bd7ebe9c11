-- The speed grades of a tree, or their first fault. Grades are numbered from 0 in the byte order of their names, and so are the
-- parameters of a grade.
use Rattle.std.specs.Prelude.{ℕ, if◌then◌else◌, List, [], ◌∷◌, ◌++◌, All, codes, Option, Some, None, ok_or, option_map, option_and_then, Result, Ok, Err}
use Rattle.std.specs.List.{find}
use Rattle.std.specs.Str.{bytes_eq}
use Rattle.serde_json.specs.Data.{Data}
use Rattle.serde_json.specs.Find.{get}
use Rattle.itv_base.specs.Characters.{is_name}
use Rattle.itv_base.specs.Range.{Ends, IsRange, has_wide, is_reversed}
use Rattle.itv_base.specs.Reading.{◌>>=◌, walk}
use Rattle.itv_base.specs.declared.range.RangeFault.TheVariants.{TooWide, EmptyRange}
use Rattle.json_tree.specs.Words.{all_of, ends_by, list_of, members_of}
use Rattle.grades.specs.declared.fault.GradesFault.{GradesFault}
use Rattle.grades.specs.declared.fault.GradesFault.TheVariants.{Grades, Limits}
use Rattle.grades.specs.declared.grade.Grade.{Grade}
use Rattle.grades.specs.declared.grade.Parameter.{Parameter}

-- ---- what grades give

-- the range that a grade gives for the name of a parameter
abbrev pub range_in : Grade → List ℕ → Option Ends
range_in grade name = option_map (λ (p : Parameter). p.range) (find (λ (p : Parameter). bytes_eq name p.name) grade.parameters)

-- the first grade with a name
abbrev pub grade_called : List Grade → List ℕ → Option Grade
grade_called grades name = find (λ (g : Grade). bytes_eq name g.name) grades

-- the ends of each parameter are a range
abbrev pub HasRanges : Grade → Type 0
HasRanges grade = All (λ (p : Parameter). IsRange p.range) grade.parameters

abbrev pub AreRanges : List Grade → Type 0
AreRanges grades = All HasRanges grades

-- ---- the form of grades

abbrev pub written_ends : Data → Option Ends
written_ends d = option_and_then ends_by (list_of d)

-- a parameter: a member whose key has the form of a name, and whose value is a list of two ends
abbrev pub parameter_of : List ℕ × Data → Option Parameter
parameter_of at = if is_name at.0 then option_map (λ ends. record { name = at.0; range = ends }) (written_ends at.1) else None

-- a grade: a member whose key has the form of a name, and whose value is an object of parameters
abbrev pub grade_of : List ℕ × Data → Option Grade
grade_of at = if is_name at.0 then option_map (λ parameters. record { name = at.0; parameters = parameters }) (option_and_then (all_of parameter_of) (members_of at.1)) else None

abbrev pub grades_in : Data → Option (List Grade)
grades_in d = option_and_then (all_of grade_of) (members_of d)

-- the grades as they are written; there are none without the key
abbrev pub written_grades : Option Data → Option (List Grade)
written_grades None = Some []
written_grades (Some d) = grades_in d

-- ---- the ranges of grades

-- the ends of parameter p of grade g, if they are a range; an end past the limit is reported before ends that are the wrong way round
abbrev pub range_for : ℕ → ℕ → Ends → Result Ends GradesFault
range_for g p ends = if has_wide ends then Err (Limits g p TooWide) else (if is_reversed ends then Err (Limits g p EmptyRange) else Ok ends)

abbrev pub with_parameter : ℕ → ℕ → List Parameter → Parameter → Result (List Parameter) GradesFault
with_parameter g p done parameter = do
  range ← range_for g p parameter.range
  Ok (done ++ record { name = parameter.name; range = range } ∷ [])

abbrev pub with_grade : ℕ → List Grade → Grade → Result (List Grade) GradesFault
with_grade g done grade = do
  parameters ← walk (with_parameter g) 0 [] grade.parameters
  Ok (done ++ record { name = grade.name; parameters = parameters } ∷ [])

-- the grades of a tree, or their first fault; the form of all grades is checked before any range
unfoldable pub grades_of : Data → Result (List Grade) GradesFault
grades_of tree = do
  written ← ok_or (written_grades (get (codes "itv_grades") tree)) Grades
  walk with_grade 0 [] written
