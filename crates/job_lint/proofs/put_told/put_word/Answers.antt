use Rattle.std.proofs.Common.{List, ℕ, ◌≡◌, ◌∙◌, ap, sym, true, false}
use Rattle.std.specs.List.{flat_map, list_any}
use Rattle.std.proofs.lemmas.Result.{err_from_is_err_and}
use Rattle.itv_base.specs.Outside.{grown}
use Rattle.itv_base.proofs.Written.{grown-nil}
use Rattle.line_words.specs.Lines.{spaced}
use Rattle.line_words.proofs.Putting.{cut_one, put_two}
use Rattle.design_plan.specs.Notes.{is_printed_byte}
use Rattle.job_lint.specs.Text.{word_if_any}
use Rattle.job_lint.proofs.Texting.{none_printed, printed_word}
use Rattle.job_lint.proofs.put_told.put_word.Goals as goal

pub returns-then-not-is_any_printed : goal.returns-then-not-is_any_printed
returns-then-not-is_any_printed g c =
    let none : list_any is_printed_byte c.args.text.now ≡ false = sym c.is_any_printed.ensures.any ∙ c.if-not-is_any_printed.true in
    grown-nil (g.K.Sink.state c.args.sink.now) ∙ ap (λ (bytes : List ℕ). grown (g.K.Sink.state c.args.sink.now) (flat_map spaced (word_if_any bytes))) (sym (none_printed is_printed_byte c.args.text.now none))

pub returns-in_err-put : goal.returns-in_err-put
returns-in_err-put g c =
    let p = err_from_is_err_and c.from_residual.result c.from_residual.ensures.1 in
    let some : list_any is_printed_byte c.args.text.now ≡ true = sym c.is_any_printed.ensures.any ∙ c.if-not-is_any_printed.false in
    rw p.1 (cut_one _ _ _ _ _ (printed_word is_printed_byte c.args.text.now some) c.in_err-put.ensures.puts)

pub returns : goal.returns
returns g c =
    let some : list_any is_printed_byte c.args.text.now ≡ true = sym c.is_any_printed.ensures.any ∙ c.if-not-is_any_printed.false in
    put_two _ _ _ _ _ _ c.put_printed.result (printed_word is_printed_byte c.args.text.now some) c.in_ok-put.ensures.puts c.put_printed.ensures.puts
