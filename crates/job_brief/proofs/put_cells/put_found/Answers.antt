use Rattle.std.proofs.lemmas.Result.{err_from_is_err_and}
use Rattle.line_words.specs.Lines.{line_of}
use Rattle.line_words.proofs.Putting.{cut_one, cut_two, put_three}
use Rattle.slack_report.specs.Text.{bound_words}
use Rattle.job_brief.specs.Step.{judgement_cells}
use Rattle.job_brief.proofs.Cells.{three_cells}
use Rattle.job_brief.proofs.put_cells.put_found.Goals as goal

pub returns-in_err-put_bound : goal.returns-in_err-put_bound
returns-in_err-put_bound g c =
    let p = err_from_is_err_and c.from_residual.result c.from_residual.ensures.1 in
    rw p.1 (cut_one _ _ _ _ _ (three_cells (line_of (bound_words c.args.row.now.both.least)) (line_of (bound_words c.args.row.now.both.greatest)) (judgement_cells c.args.row.now.judged)) c.in_err-put_bound.ensures)

pub returns-in_err-put_bound-2 : goal.returns-in_err-put_bound-2
returns-in_err-put_bound-2 g c =
    let p = err_from_is_err_and c.from_residual-in_err-put_bound-2.result c.from_residual-in_err-put_bound-2.ensures.1 in
    rw p.1 (cut_two _ _ _ _ _ _ _ (three_cells (line_of (bound_words c.args.row.now.both.least)) (line_of (bound_words c.args.row.now.both.greatest)) (judgement_cells c.args.row.now.judged)) c.in_ok-put_bound.ensures c.in_err-put_bound-2.ensures)

pub returns : goal.returns
returns g c = put_three _ _ _ _ _ _ _ _ c.put_judged.result (three_cells (line_of (bound_words c.args.row.now.both.least)) (line_of (bound_words c.args.row.now.both.greatest)) (judgement_cells c.args.row.now.judged)) c.in_ok-put_bound.ensures c.in_ok-put_bound-2.ensures c.put_judged.ensures
