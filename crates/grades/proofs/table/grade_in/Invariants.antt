use Rattle.std.proofs.Common.{◌≡◌, drop}
use Rattle.grades.specs.Grades.{grade_called}
use Rattle.grades.proofs.table.grade_in.Given as goal

-- the grades so far have other names
abbrev pub invariant-loop-grade : goal.invariant-loop-grade
invariant-loop-grade l = grade_called (drop l.grade-index l.grades) l.name ≡ grade_called l.grades l.name
