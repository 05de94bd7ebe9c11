use Rattle.std.proofs.lemmas.Result.{err_from_is_err_and}
use Rattle.std.proofs.Common.{◌<◌, length, arith}
use Rattle.itv_base.proofs.Written.{left_after, left_cut}
use Rattle.job_why.proofs.Gathering.{rows_more}
use Rattle.job_why.proofs.put_rows.put_rows.Goals as goal

pub returns-in_err-put_found : goal.returns-in_err-put_found
returns-in_err-put_found g c =
    let p = err_from_is_err_and c.from_residual.result c.from_residual.ensures.1 in
    let within : c.loop-number.number < length c.args.drawn.now.rows = grind arith in
    record { puts = rw p.1 (left_cut _ _ _ _ _ _ _ c.loop-number.invariant (rows_more (g.N.Notes.noted c.args.notes.now) c.args.drawn.now c.args.drawn.now.rows c.args.found.now c.loop-number.number c.row_at-row.result.now c.index-found-number.result c.index-found-number.result c.row_at-row.ensures.row (omega (arith, c.requires.count, within)) c.index-found-number.is) c.in_err-put_found.ensures.puts) }

pub loop-number-preserved : goal.loop-number-preserved
loop-number-preserved g c =
    let within : c.loop-number.number < length c.args.drawn.now.rows = grind arith in
    left_after _ _ _ _ _ _ _ c.loop-number.invariant (rows_more (g.N.Notes.noted c.args.notes.now) c.args.drawn.now c.args.drawn.now.rows c.args.found.now c.loop-number.number c.row_at-row.result.now c.index-found-number.result c.index-found-number.result c.row_at-row.ensures.row (omega (arith, c.requires.count, within)) c.index-found-number.is) c.in_ok-put_found.ensures.puts
