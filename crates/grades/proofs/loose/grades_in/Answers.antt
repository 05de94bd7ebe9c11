use Rattle.grades.specs.Grades.{grade_of}
use Rattle.grades.proofs.Members.{member_more}
use Rattle.grades.proofs.loose.grades_in.Goals as goal

pub loop-name-preserved : goal.loop-name-preserved
loop-name-preserved c =
    member_more grade_of c.loop-name.name-iterator c.next.new.self c.in-Some.name.now c.in-Some.value.now c.as_str.result.now c.loop-name.grades c.push.new.self c.in_ok-grade.field-0 c.in-Some-2.grade _
    c.in-Some.ensures.steps c.as_str.ensures.value c.in_ok-grade.ensures c.in-Some-2.is c.in_ok-push.ensures.ok c.loop-name.invariant
