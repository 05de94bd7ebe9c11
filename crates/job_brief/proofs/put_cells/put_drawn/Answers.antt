use Rattle.std.proofs.lemmas.Result.{err_from_is_err_and}
use Rattle.origin.specs.Text.{origin_text}
use Rattle.job_brief.proofs.Cells.{quotes_are}
use Rattle.line_words.proofs.Putting.{cut_one, cut_two, put_three}
use Rattle.job_brief.proofs.put_cells.put_drawn.Goals as goal

pub returns-in_err-put : goal.returns-in_err-put
returns-in_err-put g c =
    let p = err_from_is_err_and c.from_residual.result c.from_residual.ensures.1 in
    rw p.1 (cut_one _ _ _ _ _ (quotes_are (origin_text c.args.origin)) c.in_err-put.ensures.puts)

pub returns-in_err-put_origin : goal.returns-in_err-put_origin
returns-in_err-put_origin g c =
    let p = err_from_is_err_and c.from_residual-in_err-put_origin.result c.from_residual-in_err-put_origin.ensures.1 in
    rw p.1 (cut_two _ _ _ _ _ _ _ (quotes_are (origin_text c.args.origin)) c.in_ok-put.ensures.puts c.in_err-put_origin.ensures.puts)

pub returns : goal.returns
returns g c = put_three _ _ _ _ _ _ _ _ c.put-2.result (quotes_are (origin_text c.args.origin)) c.in_ok-put.ensures.puts c.in_ok-put_origin.ensures.puts c.put-2.ensures.puts
