use Rattle.std.proofs.lemmas.Result.{err_from_is_err_and}
use Rattle.itv_base.proofs.Written.{left_after, left_cut}
use Rattle.line_words.proofs.Printing.{spaced_by}
use Rattle.clause_texts.specs.Text.{difference_word}
use Rattle.clause_texts.proofs.put.put_differences.Goals as goal

pub returns-in_err-put_difference : goal.returns-in_err-put_difference
returns-in_err-put_difference g c =
    let p = err_from_is_err_and c.from_residual.result c.from_residual.ensures.1 in
    rw p.1 (left_cut _ _ _ _ _ _ _ c.loop-edge.invariant (spaced_by difference_word _ _ _ c.loop-edge-test.true) c.in_err-put_difference.ensures)

pub loop-edge-preserved : goal.loop-edge-preserved
loop-edge-preserved g c = left_after _ _ _ _ _ _ _ c.loop-edge.invariant (spaced_by difference_word _ _ _ c.loop-edge-test.true) c.in_ok-put_difference.ensures
