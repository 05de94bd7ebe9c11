-- The grades of a tree give ranges.
use Rattle.std.proofs.Common.{◌≡◌, ℕ, Bool, true, false, cond, List, [], ◌∷◌, ◌++◌, All, Option, Some, None, IfSome, Result, Ok, Err, IfOk}
use Rattle.std.specs.Prelude.{codes, ok_or, option_map}
use Rattle.std.specs.List.{find}
use Rattle.std.specs.Str.{bytes_eq}
use Rattle.std.proofs.lemmas.Bool.{cond_both}
use Rattle.std.proofs.lemmas.List.Elements.{All-head, All-nil, All-push, All-tail}
use Rattle.std.proofs.lemmas.Result.{IfOk-at_ok}
use Rattle.serde_json.specs.Data.{Data}
use Rattle.serde_json.specs.Find.{get}
use Rattle.itv_base.specs.Range.{Ends, IsRange, has_wide, is_reversed}
use Rattle.itv_base.specs.Reading.{walk}
use Rattle.itv_base.specs.declared.range.RangeFault.TheVariants.{TooWide, EmptyRange}
use Rattle.itv_base.proofs.Faults.{IfOk-bind, IfOk-walk}
use Rattle.itv_base.proofs.Ranges.{is_range}
use Rattle.grades.specs.declared.fault.GradesFault.{GradesFault}
use Rattle.grades.specs.declared.fault.GradesFault.TheVariants.{Grades, Limits}
use Rattle.grades.specs.declared.grade.Grade.{Grade}
use Rattle.grades.specs.declared.grade.Parameter.{Parameter}
use Rattle.grades.specs.Grades.{AreRanges, HasRanges, grade_called, grades_of, written_grades, range_in, range_for, with_grade, with_parameter}

abbrev IsWhole : Parameter → Type 0
IsWhole p = IsRange p.range

range_whole : (g p : ℕ) (ends : Ends) → IfOk (range_for g p ends) IsRange
range_whole g p ends =
    cond_both (has_wide ends) (Err (Limits g p TooWide)) (cond (is_reversed ends) (Err (Limits g p EmptyRange)) (Ok ends)) (λ r. IfOk r IsRange) (λ _. tt)
    (λ narrow. cond_both (is_reversed ends) (Err (Limits g p EmptyRange)) (Ok ends) (λ r. IfOk r IsRange) (λ _. tt) (λ ordered. is_range ends narrow ordered))

with_parameter_whole : (g p : ℕ) (done : List Parameter) (parameter : Parameter) → All IsWhole done → IfOk (with_parameter g p done parameter) (All IsWhole)
with_parameter_whole g p done parameter all =
    IfOk-bind IsRange (All IsWhole) (range_for g p parameter.range) _ (range_whole g p parameter.range) (λ range is. All-push IsWhole done (record { name = parameter.name; range = range }) all is)

with_grade_whole : (g : ℕ) (done : List Grade) (grade : Grade) → All HasRanges done → IfOk (with_grade g done grade) (All HasRanges)
with_grade_whole g done grade all =
    IfOk-bind (All IsWhole) (All HasRanges) (walk (with_parameter g) 0 [] grade.parameters) _ (IfOk-walk (All IsWhole) (with_parameter g) (with_parameter_whole g) 0 [] grade.parameters (All-nil IsWhole))
    (λ parameters are. All-push HasRanges done (record { name = grade.name; parameters = parameters }) all are)

pub walk_whole : (written : List Grade) → IfOk (walk with_grade 0 [] written) AreRanges
walk_whole written = IfOk-walk (All HasRanges) with_grade with_grade_whole 0 [] written (All-nil HasRanges)

-- if the walk reaches its end, its grades give ranges
pub ranged_whole : (written grades : List Grade) → walk with_grade 0 [] written ≡ Ok grades → AreRanges grades
ranged_whole written grades is = IfOk-at_ok AreRanges is (walk_whole written)

told_any : {A F : Type 0} (read : Result A F) → IfOk read (λ _. Unit {0})
told_any (Ok x) = tt
told_any (Err fault) = tt

of_whole : (tree : Data) → IfOk (grades_of tree) AreRanges
unfolding grades_of
of_whole tree =
    IfOk-bind (λ _. Unit {0}) AreRanges (ok_or (written_grades (get (codes "itv_grades") tree)) Grades) _ (told_any (ok_or (written_grades (get (codes "itv_grades") tree)) Grades)) (λ written _. walk_whole written)

-- the grades of a tree give ranges
pub grades_whole : (tree : Data) (grades : List Grade) → grades_of tree ≡ Ok grades → AreRanges grades
grades_whole tree grades is = IfOk-at_ok AreRanges is (of_whole tree)

-- ---- looking up

-- what holds for all elements holds for the first one that passes a test
find_holds : {X : Type 0} (P : X → Type 0) (test : X → Bool) (xs : List X) → All P xs → IfSome (find test xs) P
find_holds P test [] all = tt
find_holds P test (x ∷ xs) all =
    cond_both (test x) (Some x) (find test xs) (λ o. IfSome o P) (λ _. All-head P x xs all) (λ _. find_holds P test xs (All-tail P x xs all))

pub grade_called_whole : (grades : List Grade) (name : List ℕ) → AreRanges grades → IfSome (grade_called grades name) HasRanges
grade_called_whole grades name all = find_holds HasRanges (λ (g : Grade). bytes_eq name g.name) grades all

pub range_in_whole : (grade : Grade) (name : List ℕ) → HasRanges grade → IfSome (range_in grade name) IsRange
range_in_whole grade name all = at (find (λ (p : Parameter). bytes_eq name p.name) grade.parameters) (find_holds IsWhole (λ (p : Parameter). bytes_eq name p.name) grade.parameters all)
  where
    at : (found : Option Parameter) → IfSome found IsWhole → IfSome (option_map (λ (p : Parameter). p.range) found) IsRange
    at None is = tt
    at (Some parameter) is = is
