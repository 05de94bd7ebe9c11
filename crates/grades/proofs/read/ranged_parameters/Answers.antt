use Rattle.std.proofs.Common.{◌∙◌, sym}
use Rattle.std.proofs.lemmas.Result.{err_from_is_err_and}
use Rattle.itv_base.proofs.Faults.{walk_on, walk_fault}
use Rattle.grades.specs.Fault.{is_memory}
use Rattle.grades.specs.Grades.{with_parameter}
use Rattle.grades.proofs.read.ranged_parameters.Goals as goal

pub returns-in_err-push_parameter : goal.returns-in_err-push_parameter
returns-in_err-push_parameter c =
    let p = err_from_is_err_and c.from_residual.result c.from_residual.ensures.1 in
    rw (p.1, p.2, ← c.loop-p.invariant)
    (walk_fault is_memory (with_parameter c.args.g) c.loop-p.p c.loop-p.p c.loop-p.parameters c.args.written.now c.index-written-p.result c.in_err-push_parameter.field-0.0 c.loop-p-test.true c.index-written-p.is c.in_err-push_parameter.ensures)

pub loop-p-preserved : goal.loop-p-preserved
loop-p-preserved c =
    sym (walk_on (with_parameter c.args.g) c.loop-p.p c.loop-p.p c.loop-p.parameters c.push_parameter.new.parameters c.args.written.now c.index-written-p.result c.loop-p-test.true c.index-written-p.is c.in_ok-push_parameter.ensures)
    ∙ c.loop-p.invariant
