use Rattle.std.proofs.lemmas.Result.{err_from_is_err_and}
use Rattle.std.proofs.Common.{◌∷◌}
use Rattle.std.specs.Prelude.{codes}
use Rattle.itv_base.specs.Names.{name_view}
use Rattle.itv_base.specs.Numerals.{number_text}
use Rattle.slack_report.specs.Text.{row_words}
use Rattle.job_why.specs.Step.{by_words}
use Rattle.job_why.proofs.Lining.{line_end}
use Rattle.line_words.proofs.Putting.{cut_one, put_two}
use Rattle.job_why.proofs.put_line.put_row.Goals as goal

pub returns-in_err-put_asked : goal.returns-in_err-put_asked
returns-in_err-put_asked g c =
    let p = err_from_is_err_and c.from_residual.result c.from_residual.ensures.1 in
    rw p.1 (cut_one _ _ _ _ _ (line_end (codes "row") (number_text c.args.number ∷ row_words c.args.kind.now (name_view c.args.from) (name_view c.args.to)) (by_words c.args.by.now)) c.in_err-put_asked.ensures.puts)

pub returns : goal.returns
returns g c = put_two _ _ _ _ _ _ c.put_end.result (line_end (codes "row") (number_text c.args.number ∷ row_words c.args.kind.now (name_view c.args.from) (name_view c.args.to)) (by_words c.args.by.now)) c.in_ok-put_asked.ensures.puts c.put_end.ensures
