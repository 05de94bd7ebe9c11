use Rattle.std.proofs.lemmas.Result.{err_from_is_err_and}
use Rattle.itv_base.proofs.Written.{cut_more, puts_then}
use Rattle.slack_report.specs.Text.{words_of}
use Rattle.slack_report.proofs.write.put_row.Goals as goal

pub returns-in_err-put_asked : goal.returns-in_err-put_asked
unfolding words_of
returns-in_err-put_asked g c =
    let p = err_from_is_err_and c.from_residual.result c.from_residual.ensures.1 in
    rw p.1 (cut_more _ _ _ _ c.in_err-put_asked.ensures.puts)

pub returns : goal.returns
unfolding words_of
returns g c = puts_then _ _ _ _ _ _ c.in_ok-put_asked.ensures.puts c.put.ensures.puts
