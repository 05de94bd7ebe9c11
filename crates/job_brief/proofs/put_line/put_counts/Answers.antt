use Rattle.std.proofs.lemmas.Result.{err_from_is_err_and}
use Rattle.std.proofs.Common.{[], ◌∷◌}
use Rattle.std.specs.Prelude.{codes}
use Rattle.itv_base.specs.Numerals.{number_text}
use Rattle.job_why.proofs.Lining.{line_end}
use Rattle.line_words.proofs.Putting.{cut_one, put_two}
use Rattle.job_brief.proofs.put_line.put_counts.Goals as goal

pub returns-in_err-put_passes : goal.returns-in_err-put_passes
returns-in_err-put_passes g c =
    let p = err_from_is_err_and c.from_residual.result c.from_residual.ensures.1 in
    rw p.1 (cut_one _ _ _ _ _ (line_end (codes "rows") (number_text c.args.counts.now.rows ∷ codes "pass" ∷ number_text c.args.counts.now.pass ∷ [])
    (codes "fail" ∷ number_text c.args.counts.now.fail ∷ codes "undecided" ∷ number_text c.args.counts.now.undecided ∷ [])) c.in_err-put_passes.ensures)

pub returns : goal.returns
returns g c =
    put_two _ _ _ _ _ _ c.put_fails.result (line_end (codes "rows") (number_text c.args.counts.now.rows ∷ codes "pass" ∷ number_text c.args.counts.now.pass ∷ [])
    (codes "fail" ∷ number_text c.args.counts.now.fail ∷ codes "undecided" ∷ number_text c.args.counts.now.undecided ∷ [])) c.in_ok-put_passes.ensures c.put_fails.ensures
