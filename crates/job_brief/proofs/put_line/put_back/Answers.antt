use Rattle.std.proofs.lemmas.Result.{err_from_is_err_and}
use Rattle.job_why.specs.Step.{by_words}
use Rattle.job_brief.specs.Step.{judgement_words, order_word}
use Rattle.job_brief.proofs.Lining.{spaced_three}
use Rattle.line_words.proofs.Putting.{cut_one, cut_two, put_three}
use Rattle.job_brief.proofs.put_line.put_back.Goals as goal

pub returns-in_err-put_judged : goal.returns-in_err-put_judged
returns-in_err-put_judged g c =
    let p = err_from_is_err_and c.from_residual.result c.from_residual.ensures.1 in
    let row = c.args.row.now in
    rw p.1 (cut_one _ _ _ _ _ (spaced_three (judgement_words row.judged) (by_words row.by) (order_word row.rests_on_order)) c.in_err-put_judged.ensures)

pub returns-in_err-put_by : goal.returns-in_err-put_by
returns-in_err-put_by g c =
    let p = err_from_is_err_and c.from_residual-in_err-put_by.result c.from_residual-in_err-put_by.ensures.1 in
    let row = c.args.row.now in
    rw p.1 (cut_two _ _ _ _ _ _ _ (spaced_three (judgement_words row.judged) (by_words row.by) (order_word row.rests_on_order)) c.in_ok-put_judged.ensures c.in_err-put_by.ensures.puts)

pub returns : goal.returns
returns g c =
    let row = c.args.row.now in
    put_three _ _ _ _ _ _ _ _ c.put_order.result (spaced_three (judgement_words row.judged) (by_words row.by) (order_word row.rests_on_order)) c.in_ok-put_judged.ensures
    c.in_ok-put_by.ensures.puts c.put_order.ensures
