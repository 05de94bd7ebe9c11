use Rattle.grades.specs.Grades.{parameter_of}
use Rattle.grades.proofs.Members.{member_more}
use Rattle.grades.proofs.loose.parameters_in.Goals as goal

pub loop-name-preserved : goal.loop-name-preserved
loop-name-preserved c =
    member_more parameter_of c.loop-name.name-iterator c.next.new.self c.in-Some.name.now c.in-Some.value.now c.as_str.result.now c.loop-name.parameters c.push.new.self c.in_ok-parameter.field-0 c.in-Some-2.parameter _
    c.in-Some.ensures.steps c.as_str.ensures.value c.in_ok-parameter.ensures c.in-Some-2.is c.in_ok-push.ensures.ok c.loop-name.invariant
