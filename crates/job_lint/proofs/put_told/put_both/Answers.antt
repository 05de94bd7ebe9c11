use Rattle.std.proofs.lemmas.Result.{err_from_is_err_and}
use Rattle.std.specs.List.{filter}
use Rattle.design_plan.specs.Notes.{is_printed_byte}
use Rattle.job_lint.proofs.Texting.{both_spaced}
use Rattle.line_words.proofs.Putting.{cut_one, cut_two, put_three}
use Rattle.job_lint.proofs.put_told.put_both.Goals as goal

pub returns-in_err-put_word : goal.returns-in_err-put_word
returns-in_err-put_word g c =
    let p = err_from_is_err_and c.from_residual.result c.from_residual.ensures.1 in
    rw p.1 (cut_one _ _ _ _ _ (both_spaced (filter is_printed_byte c.args.first.now) (filter is_printed_byte c.args.other.now)) c.in_err-put_word.ensures)

pub returns-in_err-put_stroke : goal.returns-in_err-put_stroke
returns-in_err-put_stroke g c =
    let p = err_from_is_err_and c.from_residual-in_err-put_stroke.result c.from_residual-in_err-put_stroke.ensures.1 in
    rw p.1 (cut_two _ _ _ _ _ _ _ (both_spaced (filter is_printed_byte c.args.first.now) (filter is_printed_byte c.args.other.now)) c.in_ok-put_word.ensures c.in_err-put_stroke.ensures)

pub returns : goal.returns
returns g c =
    put_three _ _ _ _ _ _ _ _ c.put_word-2.result (both_spaced (filter is_printed_byte c.args.first.now) (filter is_printed_byte c.args.other.now)) c.in_ok-put_word.ensures c.in_ok-put_stroke.ensures
    c.put_word-2.ensures
