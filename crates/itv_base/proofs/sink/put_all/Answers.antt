use Rattle.std.proofs.lemmas.Result.{err_from_is_err_and}
use Rattle.itv_base.proofs.Written.{left_after, left_cut, pieces_at}
use Rattle.itv_base.proofs.sink.put_all.Goals as goal

pub returns-in_err-put : goal.returns-in_err-put
returns-in_err-put g c =
    let p = err_from_is_err_and c.from_residual.result c.from_residual.ensures.1 in
    rw p.1 (record { puts = left_cut _ _ _ _ _ _ _ c.loop-piece.invariant (pieces_at _ _ _ c.loop-piece-test.true) c.in_err-put.ensures.puts })

pub loop-piece-preserved : goal.loop-piece-preserved
loop-piece-preserved g c =
    left_after _ _ _ _ _ _ _ c.loop-piece.invariant (pieces_at _ _ _ c.loop-piece-test.true) c.in_ok-put.ensures.puts
