use Rattle.std.proofs.lemmas.Result.{err_from_is_err_and}
use Rattle.std.proofs.Common.{◌≡◌, ◌<◌, length, arith}
use Rattle.itv_base.proofs.Written.{left_after, left_cut}
use Rattle.job_settle.proofs.Gathering.{at_row, rows_count, rows_more}
use Rattle.job_settle.proofs.put_rows.put_each.Goals as goal

pub bounds-found-number : goal.bounds-found-number
bounds-found-number g c =
    let count : length c.args.found.now ≡ length c.args.drawn.now.rows = rows_count c.args.cert c.args.drawn.now.net c.args.drawn.now.rows c.args.found.now c.requires.found in
    let within : c.loop-number.number < length c.args.drawn.now.rows = grind arith in
    omega (arith, count, within)

pub put_found-requires-clause-greatest : goal.put_found-requires-clause-greatest
put_found-requires-clause-greatest g c =
    (at_row c.args.cert c.args.drawn.now.net c.args.drawn.now.rows c.args.found.now c.loop-number.number c.row_at-row.result.now c.index-found-number.result c.row_at-row.ensures.row
    c.row_at-row.ensures.within c.index-found-number.is c.requires.found).0

pub put_found-requires-clause-least : goal.put_found-requires-clause-least
put_found-requires-clause-least g c =
    (at_row c.args.cert c.args.drawn.now.net c.args.drawn.now.rows c.args.found.now c.loop-number.number c.row_at-row.result.now c.index-found-number.result c.row_at-row.ensures.row
    c.row_at-row.ensures.within c.index-found-number.is c.requires.found).1

pub returns-in_err-put_found : goal.returns-in_err-put_found
returns-in_err-put_found g c =
    let p = err_from_is_err_and c.from_residual.result c.from_residual.ensures.1 in
    let count : length c.args.found.now ≡ length c.args.drawn.now.rows = rows_count c.args.cert c.args.drawn.now.net c.args.drawn.now.rows c.args.found.now c.requires.found in
    let within : c.loop-number.number < length c.args.drawn.now.rows = grind arith in
    record {
      puts = rw p.1 (left_cut _ _ _ _ _ _ _ c.loop-number.invariant (rows_more c.args.drawn.now c.args.cert c.args.drawn.now.rows c.args.found.now c.loop-number.number c.row_at-row.result.now
          c.index-found-number.result c.index-found-number.result c.row_at-row.ensures.row (omega (arith, count, within)) c.index-found-number.is) c.in_err-put_found.ensures.puts);
    }

pub loop-number-preserved : goal.loop-number-preserved
loop-number-preserved g c =
    let count : length c.args.found.now ≡ length c.args.drawn.now.rows = rows_count c.args.cert c.args.drawn.now.net c.args.drawn.now.rows c.args.found.now c.requires.found in
    let within : c.loop-number.number < length c.args.drawn.now.rows = grind arith in
    left_after _ _ _ _ _ _ _ c.loop-number.invariant (rows_more c.args.drawn.now c.args.cert c.args.drawn.now.rows c.args.found.now c.loop-number.number c.row_at-row.result.now
    c.index-found-number.result c.index-found-number.result c.row_at-row.ensures.row (omega (arith, count, within)) c.index-found-number.is) c.in_ok-put_found.ensures.puts
