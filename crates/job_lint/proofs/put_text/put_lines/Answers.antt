use Rattle.std.proofs.lemmas.Result.{err_from_is_err_and}
use Rattle.std.proofs.lemmas.List.{at_drop_more}
use Rattle.std.specs.List.{flat_map}
use Rattle.itv_base.proofs.Written.{left_after, left_cut}
use Rattle.job_lint.specs.Text.{shown_text}
use Rattle.job_lint.proofs.put_text.put_lines.Goals as goal

pub returns-in_err-put_shown : goal.returns-in_err-put_shown
returns-in_err-put_shown g c =
    let p = err_from_is_err_and c.from_residual.result c.from_residual.ensures.1 in
    record {
      puts = rw p.1 (left_cut _ _ _ _ _ _ _ c.loop-line.invariant (at_drop_more (flat_map (shown_text c.args.plan.now c.args.design.now c.args.drawn.now)) _ _ _ c.loop-line-test.true) c.in_err-put_shown.ensures.puts);
    }

pub loop-line-preserved : goal.loop-line-preserved
loop-line-preserved g c =
    left_after _ _ _ _ _ _ _ c.loop-line.invariant (at_drop_more (flat_map (shown_text c.args.plan.now c.args.design.now c.args.drawn.now)) _ _ _ c.loop-line-test.true) c.in_ok-put_shown.ensures.puts
