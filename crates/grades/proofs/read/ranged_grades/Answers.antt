use Rattle.std.proofs.Common.{◌∙◌, sym}
use Rattle.std.proofs.lemmas.Result.{err_from_is_err_and}
use Rattle.itv_base.proofs.Faults.{walk_on, walk_fault}
use Rattle.grades.specs.Fault.{is_memory}
use Rattle.grades.specs.Grades.{with_grade}
use Rattle.grades.proofs.read.ranged_grades.Goals as goal

pub returns-in_err-push_grade : goal.returns-in_err-push_grade
returns-in_err-push_grade c =
    let p = err_from_is_err_and c.from_residual.result c.from_residual.ensures.1 in
    rw (p.1, p.2, ← c.loop-g.invariant)
    (walk_fault is_memory with_grade c.loop-g.g c.loop-g.g c.loop-g.grades c.args.written.now c.index-written-g.result c.in_err-push_grade.field-0.0 c.loop-g-test.true c.index-written-g.is c.in_err-push_grade.ensures)

pub loop-g-preserved : goal.loop-g-preserved
loop-g-preserved c =
    sym (walk_on with_grade c.loop-g.g c.loop-g.g c.loop-g.grades c.push_grade.new.grades c.args.written.now c.index-written-g.result c.loop-g-test.true c.index-written-g.is c.in_ok-push_grade.ensures)
    ∙ c.loop-g.invariant
