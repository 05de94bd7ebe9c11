use Rattle.std.proofs.Common.{List, subst, sym}
use Rattle.std.proofs.lemmas.Result.{err_from_is_err_and}
use Rattle.job_lint.specs.declared.line.Line.{Line}
use Rattle.job_lint.specs.Step.Put.{AreLintLines}
use Rattle.job_lint.proofs.write.write_design.Goals as goal

pub returns-in_err-put_found : goal.returns-in_err-put_found
returns-in_err-put_found g c =
    let p = err_from_is_err_and c.from_residual-in_err-put_found.result c.from_residual-in_err-put_found.ensures.1 in
    record {
      works = rw (p.1, p.2) (c.in_err-put_found.ensures.begins c.args.budget (subst (λ (ls : List Line). AreLintLines c.args.plan.now c.args.design.now c.args.drawn.now c.args.budget ls) (sym c.deref.ensures.value) c.in_ok-lines.ensures.lines));
    }

pub returns : goal.returns
returns g c = record {
  works = c.in_ok-put_found.ensures.answers c.args.budget (subst (λ (ls : List Line). AreLintLines c.args.plan.now c.args.design.now c.args.drawn.now c.args.budget ls) (sym c.deref.ensures.value) c.in_ok-lines.ensures.lines);
}
