use Rattle.std.proofs.lemmas.Result.{err_from_is_err_and}
use Rattle.itv_base.proofs.Written.{left_after, left_cut}
use Rattle.line_words.proofs.Printing.{spaced_by}
use Rattle.job_lint.specs.Step.Put.{piece_word}
use Rattle.job_lint.proofs.put_piece.put_pieces.Goals as goal

pub returns-in_err-put_piece : goal.returns-in_err-put_piece
returns-in_err-put_piece g c =
    let p = err_from_is_err_and c.from_residual.result c.from_residual.ensures.1 in
    record { puts = rw p.1 (left_cut _ _ _ _ _ _ _ c.loop-piece.invariant (spaced_by piece_word _ _ _ c.loop-piece-test.true) c.in_err-put_piece.ensures.puts) }

pub loop-piece-preserved : goal.loop-piece-preserved
loop-piece-preserved g c = left_after _ _ _ _ _ _ _ c.loop-piece.invariant (spaced_by piece_word _ _ _ c.loop-piece-test.true) c.in_ok-put_piece.ensures.puts
