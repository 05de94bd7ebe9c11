use Rattle.std.proofs.lemmas.Result.{IfOk-weaker}
use Rattle.job_lint.proofs.write.find_lines.Goals as goal

pub returns : goal.returns
returns c = record {
  lines = IfOk-weaker c.lines_of.result _ _
      (λ lines are. record {
        is_design = c.requires.design;
        warnings = c.deref-2.result.now;
        found = c.in_ok-found.found;
        is_found = c.in_ok-found.ensures.found;
        settles = c.in_ok-found.ensures.settles;
        are_lines = are;
      })
      c.lines_of.ensures.lines;
}
