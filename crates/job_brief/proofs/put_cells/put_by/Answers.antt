use Rattle.std.proofs.lemmas.Result.{err_from_is_err_and}
use Rattle.origin.specs.Text.{origin_text}
use Rattle.job_brief.specs.Table.{in_quotes, quoted}
use Rattle.job_brief.proofs.Cells.{last_two}
use Rattle.line_words.proofs.Putting.{cut_one, cut_two, put_three}
use Rattle.job_brief.proofs.put_cells.put_by.Goals as goal

pub returns-in_err-put_drawn : goal.returns-in_err-put_drawn
returns-in_err-put_drawn g c =
    let p = err_from_is_err_and c.from_residual.result c.from_residual.ensures.1 in
    rw p.1 (cut_one _ _ _ _ _ (last_two (in_quotes (origin_text c.args.by.now.origin)) (quoted c.args.by.now.note.now) (quoted c.args.by.now.grade.now)) c.in_err-put_drawn.ensures)

pub returns-in_err-put_text : goal.returns-in_err-put_text
returns-in_err-put_text g c =
    let p = err_from_is_err_and c.from_residual-in_err-put_text.result c.from_residual-in_err-put_text.ensures.1 in
    rw p.1 (cut_two _ _ _ _ _ _ _ (last_two (in_quotes (origin_text c.args.by.now.origin)) (quoted c.args.by.now.note.now) (quoted c.args.by.now.grade.now)) c.in_ok-put_drawn.ensures c.in_err-put_text.ensures)

pub returns : goal.returns
returns g c = put_three _ _ _ _ _ _ _ _ c.put_text-2.result (last_two (in_quotes (origin_text c.args.by.now.origin)) (quoted c.args.by.now.note.now) (quoted c.args.by.now.grade.now)) c.in_ok-put_drawn.ensures c.in_ok-put_text.ensures c.put_text-2.ensures
