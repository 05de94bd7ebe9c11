use Rattle.std.proofs.lemmas.Result.{err_from_is_err_and}
use Rattle.std.proofs.Common.{◌∷◌, ◌++◌}
use Rattle.std.specs.Prelude.{codes}
use Rattle.itv_base.specs.Names.{name_view}
use Rattle.itv_base.specs.Numerals.{number_text}
use Rattle.slack_report.specs.Text.{bound_words, row_words}
use Rattle.job_why.proofs.Lining.{line_more}
use Rattle.line_words.proofs.Putting.{cut_one, put_two}
use Rattle.job_brief.proofs.put_line.put_front.Goals as goal

pub returns-in_err-put_asked : goal.returns-in_err-put_asked
returns-in_err-put_asked g c =
    let p = err_from_is_err_and c.from_residual.result c.from_residual.ensures.1 in
    let row = c.args.row.now in
    rw p.1 (cut_one _ _ _ _ _ (line_more (codes "row") (number_text row.number ∷ row_words row.kind (name_view row.from) (name_view row.to))
    (bound_words row.both.least ++ bound_words row.both.greatest)) c.in_err-put_asked.ensures.puts)

pub returns : goal.returns
returns g c =
    let row = c.args.row.now in
    put_two _ _ _ _ _ _ c.put_bounds.result (line_more (codes "row") (number_text row.number ∷ row_words row.kind (name_view row.from) (name_view row.to))
    (bound_words row.both.least ++ bound_words row.both.greatest)) c.in_ok-put_asked.ensures.puts c.put_bounds.ensures
