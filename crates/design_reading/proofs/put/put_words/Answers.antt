use Rattle.std.proofs.lemmas.Result.{err_from_is_err_and}
use Rattle.itv_base.proofs.Written.{left_after, left_cut}
use Rattle.line_words.proofs.Printing.{spaced_by}
use Rattle.design_reading.specs.Step.Word.{word_spelled}
use Rattle.design_reading.proofs.put.put_words.Goals as goal

pub returns-in_err-put_word : goal.returns-in_err-put_word
returns-in_err-put_word g c =
    let p = err_from_is_err_and c.from_residual.result c.from_residual.ensures.1 in
    rw p.1 (left_cut _ _ _ _ _ _ _ c.loop-word.invariant (spaced_by word_spelled _ _ _ c.loop-word-test.true) c.in_err-put_word.ensures)

pub loop-word-preserved : goal.loop-word-preserved
loop-word-preserved g c = left_after _ _ _ _ _ _ _ c.loop-word.invariant (spaced_by word_spelled _ _ _ c.loop-word-test.true) c.in_ok-put_word.ensures
