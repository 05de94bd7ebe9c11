use Rattle.std.proofs.Common.{◌≡◌, [], drop}
use Rattle.itv_base.specs.Reading.{walk}
use Rattle.grades.specs.Grades.{with_grade}
use Rattle.grades.proofs.read.ranged_grades.Given as goal

-- from the grades so far, the grades that are left lead to what all grades give
abbrev pub invariant-loop-g : goal.invariant-loop-g
invariant-loop-g l = walk with_grade l.g l.grades (drop l.g l.written) ≡ walk with_grade 0 [] l.written
