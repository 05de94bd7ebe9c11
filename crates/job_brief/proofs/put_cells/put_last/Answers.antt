use Rattle.std.proofs.lemmas.Result.{err_from_is_err_and}
use Rattle.std.proofs.Common.{[], ◌∷◌}
use Rattle.itv_base.specs.Numerals.{number_text}
use Rattle.line_words.specs.Lines.{line_of}
use Rattle.line_words.proofs.Putting.{cut_one, put_two}
use Rattle.job_brief.specs.Step.{order_word}
use Rattle.job_brief.proofs.Cells.{cell_end}
use Rattle.job_brief.proofs.put_cells.put_last.Goals as goal

pub returns-in_err-put_order : goal.returns-in_err-put_order
returns-in_err-put_order g c =
    let p = err_from_is_err_and c.from_residual.result c.from_residual.ensures.1 in
    rw p.1 (cut_one _ _ _ _ _ (cell_end (line_of (order_word c.args.row.now.rests_on_order)) (number_text c.args.row.now.from.cycle ∷ number_text c.args.row.now.last_cycle ∷ [])) c.in_err-put_order.ensures)

pub returns : goal.returns
returns g c = put_two _ _ _ _ _ _ c.put_cycles.result (cell_end (line_of (order_word c.args.row.now.rests_on_order)) (number_text c.args.row.now.from.cycle ∷ number_text c.args.row.now.last_cycle ∷ [])) c.in_ok-put_order.ensures c.put_cycles.ensures
