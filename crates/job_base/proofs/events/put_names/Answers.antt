use Rattle.std.proofs.Common.{◌<◌, length, arith}
use Rattle.std.proofs.lemmas.Result.{err_from_is_err_and}
use Rattle.itv_base.proofs.Written.{left_after, left_cut}
use Rattle.job_base.proofs.Naming.{events_more}
use Rattle.job_base.proofs.events.put_names.Goals as goal

pub returns-in_err-put_event : goal.returns-in_err-put_event
returns-in_err-put_event g c =
    let p = err_from_is_err_and c.from_residual.result c.from_residual.ensures.1 in
    let within : c.loop-number.number < length c.args.drawn.now.names = grind arith in
    rw p.1 (left_cut _ _ _ _ _ _ _ c.loop-number.invariant (events_more c.args.drawn.now c.loop-number.number within) c.in_err-put_event.ensures)

pub loop-number-preserved : goal.loop-number-preserved
loop-number-preserved g c =
    let within : c.loop-number.number < length c.args.drawn.now.names = grind arith in
    left_after _ _ _ _ _ _ _ c.loop-number.invariant (events_more c.args.drawn.now c.loop-number.number within) c.in_ok-put_event.ensures
