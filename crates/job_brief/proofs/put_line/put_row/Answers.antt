use Rattle.std.proofs.lemmas.Result.{err_from_is_err_and}
use Rattle.std.proofs.Common.{◌∷◌}
use Rattle.std.specs.Prelude.{codes}
use Rattle.itv_base.specs.Numerals.{number_text}
use Rattle.job_brief.specs.Lines.{cycle_words}
use Rattle.job_brief.specs.Step.{back_words, front_words}
use Rattle.job_why.proofs.Lining.{line_both_end}
use Rattle.line_words.proofs.Putting.{cut_one, cut_two, put_three}
use Rattle.job_brief.proofs.put_line.put_row.Goals as goal

pub returns-in_err-put_front : goal.returns-in_err-put_front
returns-in_err-put_front g c =
    let p = err_from_is_err_and c.from_residual.result c.from_residual.ensures.1 in
    rw p.1 (cut_one _ _ _ _ _ (line_both_end (codes "row") (number_text c.args.row.now.number ∷ front_words c.args.row.now) (back_words c.args.row.now) (cycle_words c.args.row.now.from.cycle c.args.row.now.last_cycle))
    c.in_err-put_front.ensures)

pub returns-in_err-put_back : goal.returns-in_err-put_back
returns-in_err-put_back g c =
    let p = err_from_is_err_and c.from_residual-in_err-put_back.result c.from_residual-in_err-put_back.ensures.1 in
    rw p.1 (cut_two _ _ _ _ _ _ _ (line_both_end (codes "row") (number_text c.args.row.now.number ∷ front_words c.args.row.now) (back_words c.args.row.now) (cycle_words c.args.row.now.from.cycle c.args.row.now.last_cycle))
    c.in_ok-put_front.ensures c.in_err-put_back.ensures)

pub returns : goal.returns
returns g c =
    put_three _ _ _ _ _ _ _ _ c.put_cycles.result (line_both_end (codes "row") (number_text c.args.row.now.number ∷ front_words c.args.row.now) (back_words c.args.row.now) (cycle_words c.args.row.now.from.cycle c.args.row.now.last_cycle))
    c.in_ok-put_front.ensures c.in_ok-put_back.ensures c.put_cycles.ensures
