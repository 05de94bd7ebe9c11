use Rattle.std.proofs.lemmas.Result.{err_from_is_err_and}
use Rattle.job_lint.proofs.Whole.{lint_is}
use Rattle.line_words.proofs.Putting.{cut_one, cut_two, put_three}
use Rattle.job_lint.proofs.put_text.put_text.Goals as goal

pub returns-in_err-put : goal.returns-in_err-put
returns-in_err-put g c =
    let p = err_from_is_err_and c.from_residual.result c.from_residual.ensures.1 in
    record {
      puts = rw p.1 (cut_one _ _ _ _ _ (lint_is c.args.plan.now c.args.design.now c.args.drawn.now c.args.lines.now c.args.clean c.meant_count-meant.result c.requires.clean c.meant_count-meant.ensures.count) c.in_err-put.ensures.puts);
    }

pub returns-in_err-put_lines : goal.returns-in_err-put_lines
returns-in_err-put_lines g c =
    let p = err_from_is_err_and c.from_residual-in_err-put_lines.result c.from_residual-in_err-put_lines.ensures.1 in
    record {
      puts = rw p.1 (cut_two _ _ _ _ _ _ _ (lint_is c.args.plan.now c.args.design.now c.args.drawn.now c.args.lines.now c.args.clean c.meant_count-meant.result c.requires.clean c.meant_count-meant.ensures.count) c.in_ok-put.ensures.puts c.in_err-put_lines.ensures.puts);
    }

pub returns : goal.returns
returns g c = record {
  puts = put_three _ _ _ _ _ _ _ _ c.put_end.result (lint_is c.args.plan.now c.args.design.now c.args.drawn.now c.args.lines.now c.args.clean c.meant_count-meant.result c.requires.clean c.meant_count-meant.ensures.count) c.in_ok-put.ensures.puts
      c.in_ok-put_lines.ensures.puts c.put_end.ensures.puts;
}
