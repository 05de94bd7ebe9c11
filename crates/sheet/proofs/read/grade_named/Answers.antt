use Rattle.std.proofs.Common.{IfSome, subst, sym}
use Rattle.grades.specs.Grades.{HasRanges}
use Rattle.grades.proofs.WholeGrades.{grade_called_whole}
use Rattle.sheet.proofs.read.grade_named.Goals as goal

pub returns-in-Some-grade-clause-ranges : goal.returns-in-Some-grade-clause-ranges
returns-in-Some-grade-clause-ranges c =
    subst (λ o. IfSome o HasRanges) (sym c.in-Some-grade.ensures.grade) (grade_called_whole c.args.grades.now _ c.in-Some-grade.ensures.ranges)
