use Rattle.std.proofs.Common.{sym}
use Rattle.std.proofs.lemmas.Grind.{flat_map-append}
use Rattle.std.proofs.lemmas.Result.{err_from_is_err_and}
use Rattle.line_words.specs.Lines.{spaced}
use Rattle.line_words.proofs.Putting.{cut_one, put_two}
use Rattle.job_why.specs.Text.{grade_word, some_word}
use Rattle.job_why.proofs.drawn_by.put_told.Goals as goal

pub returns-in_err-put_note : goal.returns-in_err-put_note
returns-in_err-put_note g c =
    let p = err_from_is_err_and c.from_residual.result c.from_residual.ensures.1 in
    rw p.1 (cut_one _ _ _ _ _ (sym (flat_map-append spaced (some_word c.args.note.now) (grade_word c.args.grade.now))) c.in_err-put_note.ensures)

pub returns : goal.returns
returns g c =
    put_two _ _ _ _ _ _ c.put_grade.result (sym (flat_map-append spaced (some_word c.args.note.now) (grade_word c.args.grade.now))) c.in_ok-put_note.ensures c.put_grade.ensures
