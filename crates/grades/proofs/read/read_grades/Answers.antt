use Rattle.std.proofs.Common.{◌∙◌, sym}
use Rattle.std.proofs.lemmas.Result.{err_from_is_err_and}
use Rattle.serde_json.specs.View.{view}
use Rattle.grades.proofs.GradesSteps.{written-none, written-some, ranged-fault}
use Rattle.grades.proofs.WholeGrades.{ranged_whole}
use Rattle.grades.proofs.read.read_grades.Goals as goal

pub returns-in_default : goal.returns-in_default
returns-in_default c = record { answer = written-none (view c.args.tree.now) (sym c.in_ok-written.ensures ∙ c.in_default.is) }

pub returns-in_err-grades : goal.returns-in_err-grades
returns-in_err-grades c =
    let p = err_from_is_err_and c.from_residual-in_err-grades.result c.from_residual-in_err-grades.ensures.1 in
    rw (p.1, p.2) (record { answer = ranged-fault (view c.args.tree.now) c.in-Some.written (sym c.in_ok-written.ensures ∙ c.in-Some.is) c.in_err-grades.field-0.0 (rw c.as_slice.ensures.items at c.in_err-grades.ensures) })

pub invariant_of-result : goal.invariant_of-result
invariant_of-result c = ranged_whole c.in-Some.written c.in_ok-grades.grades (rw c.as_slice.ensures.items at c.in_ok-grades.ensures)

pub returns : goal.returns
returns c = record { answer = written-some (view c.args.tree.now) c.in-Some.written (sym c.in_ok-written.ensures ∙ c.in-Some.is) ∙ (rw c.as_slice.ensures.items at c.in_ok-grades.ensures) }
