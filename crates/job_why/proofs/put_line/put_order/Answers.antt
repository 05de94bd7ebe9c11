use Rattle.std.proofs.lemmas.Result.{err_from_is_err_and}
use Rattle.std.proofs.Common.{◌∷◌}
use Rattle.std.specs.Prelude.{codes}
use Rattle.slack_report.specs.Text.{bound_words, verdict_words}
use Rattle.job_why.proofs.Lining.{line_both_end}
use Rattle.line_words.proofs.Putting.{cut_one, cut_two, put_three}
use Rattle.job_why.proofs.put_line.put_order.Goals as goal

pub returns-in_err-put_greatest : goal.returns-in_err-put_greatest
returns-in_err-put_greatest g c =
    let p = err_from_is_err_and c.from_residual.result c.from_residual.ensures.1 in
    rw p.1 (cut_one _ _ _ _ _ (line_both_end (codes "order") (codes "max" ∷ bound_words c.args.both.now.greatest) (codes "min" ∷ bound_words c.args.both.now.least) (verdict_words c.args.word)) c.in_err-put_greatest.ensures)

pub returns-in_err-put_least : goal.returns-in_err-put_least
returns-in_err-put_least g c =
    let p = err_from_is_err_and c.from_residual-in_err-put_least.result c.from_residual-in_err-put_least.ensures.1 in
    rw p.1 (cut_two _ _ _ _ _ _ _ (line_both_end (codes "order") (codes "max" ∷ bound_words c.args.both.now.greatest) (codes "min" ∷ bound_words c.args.both.now.least) (verdict_words c.args.word)) c.in_ok-put_greatest.ensures c.in_err-put_least.ensures)

pub returns : goal.returns
returns g c =
    put_three _ _ _ _ _ _ _ _ c.put_verdict_end.result (line_both_end (codes "order") (codes "max" ∷ bound_words c.args.both.now.greatest) (codes "min" ∷ bound_words c.args.both.now.least) (verdict_words c.args.word)) c.in_ok-put_greatest.ensures c.in_ok-put_least.ensures c.put_verdict_end.ensures
