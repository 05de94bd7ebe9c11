use Rattle.std.proofs.lemmas.Result.{err_from_is_err_and}
use Rattle.itv_base.specs.Numerals.{number_text}
use Rattle.job_brief.specs.Step.{asked_cells, by_cells, found_cells, last_cells}
use Rattle.job_brief.proofs.Cells.{cells_are}
use Rattle.line_words.proofs.Putting.{cut_one, cut_two, cut_three, put_four}
use Rattle.job_brief.proofs.put_cells.put_cells.Goals as goal

pub returns-in_err-put_asked : goal.returns-in_err-put_asked
returns-in_err-put_asked g c =
    let p = err_from_is_err_and c.from_residual.result c.from_residual.ensures.1 in
    record { puts = rw p.1 (cut_one _ _ _ _ _ (cells_are (number_text c.args.row.now.number) (asked_cells c.args.row.now) (found_cells c.args.row.now) (by_cells c.args.row.now.by) (last_cells c.args.row.now)) c.in_err-put_asked.ensures) }

pub returns-in_err-put_found : goal.returns-in_err-put_found
returns-in_err-put_found g c =
    let p = err_from_is_err_and c.from_residual-in_err-put_found.result c.from_residual-in_err-put_found.ensures.1 in
    record { puts = rw p.1 (cut_two _ _ _ _ _ _ _ (cells_are (number_text c.args.row.now.number) (asked_cells c.args.row.now) (found_cells c.args.row.now) (by_cells c.args.row.now.by) (last_cells c.args.row.now)) c.in_ok-put_asked.ensures c.in_err-put_found.ensures) }

pub returns-in_err-put_by : goal.returns-in_err-put_by
returns-in_err-put_by g c =
    let p = err_from_is_err_and c.from_residual-in_err-put_by.result c.from_residual-in_err-put_by.ensures.1 in
    record { puts = rw p.1 (cut_three _ _ _ _ _ _ _ _ _ (cells_are (number_text c.args.row.now.number) (asked_cells c.args.row.now) (found_cells c.args.row.now) (by_cells c.args.row.now.by) (last_cells c.args.row.now)) c.in_ok-put_asked.ensures c.in_ok-put_found.ensures c.in_err-put_by.ensures) }

pub returns : goal.returns
returns g c = record { puts = put_four _ _ _ _ _ _ _ _ _ _ c.put_last.result (cells_are (number_text c.args.row.now.number) (asked_cells c.args.row.now) (found_cells c.args.row.now) (by_cells c.args.row.now.by) (last_cells c.args.row.now)) c.in_ok-put_asked.ensures c.in_ok-put_found.ensures c.in_ok-put_by.ensures c.put_last.ensures }
