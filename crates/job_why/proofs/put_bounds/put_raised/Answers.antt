use Rattle.std.proofs.lemmas.Result.{err_from_is_err_and}
use Rattle.std.proofs.Common.{◌<◌, length, arith}
use Rattle.itv_base.proofs.Written.{left_after, left_cut}
use Rattle.job_why.proofs.Gathering.{raise_more}
use Rattle.job_why.proofs.put_bounds.put_raised.Goals as goal

pub returns-in_err-put_flag : goal.returns-in_err-put_flag
returns-in_err-put_flag g c =
    let p = err_from_is_err_and c.from_residual.result c.from_residual.ensures.1 in
    let within : c.loop-number.number < length c.args.set.now = grind arith in
    rw p.1 (left_cut _ _ _ _ _ _ _ c.loop-number.invariant (raise_more c.args.drawn.now c.args.set.now c.loop-number.number _ within) c.in_err-put_flag.ensures)

pub loop-number-preserved : goal.loop-number-preserved
loop-number-preserved g c =
    let within : c.loop-number.number < length c.args.set.now = grind arith in
    left_after _ _ _ _ _ _ _ c.loop-number.invariant (raise_more c.args.drawn.now c.args.set.now c.loop-number.number _ within) c.in_ok-put_flag.ensures
