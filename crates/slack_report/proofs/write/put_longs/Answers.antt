use Rattle.std.proofs.lemmas.Result.{err_from_is_err_and}
use Rattle.itv_base.specs.Numerals.{signed_text}
use Rattle.itv_base.proofs.Written.{left_after, left_cut}
use Rattle.line_words.proofs.Printing.{spaced_by}
use Rattle.slack_report.proofs.write.put_longs.Goals as goal

pub returns-in_err-put_long : goal.returns-in_err-put_long
returns-in_err-put_long g c =
    let p = err_from_is_err_and c.from_residual.result c.from_residual.ensures.1 in
    rw p.1 (left_cut _ _ _ _ _ _ _ c.loop-value.invariant (spaced_by signed_text _ _ _ c.loop-value-test.true) c.in_err-put_long.ensures)

pub loop-value-preserved : goal.loop-value-preserved
loop-value-preserved g c = left_after _ _ _ _ _ _ _ c.loop-value.invariant (spaced_by signed_text _ _ _ c.loop-value-test.true) c.in_ok-put_long.ensures
