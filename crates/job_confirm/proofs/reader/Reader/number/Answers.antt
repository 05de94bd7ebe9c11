use Rattle.std.proofs.Common.{w64, ap, ◌∙◌}
use Rattle.std.proofs.lemmas.Int.{to_z-of_z}
use Rattle.std.proofs.lemmas.Option.{none-some, same_Some}
use Rattle.line_words.specs.Views.{texts}
use Rattle.job_confirm.proofs.Found.{number_found}
use Rattle.job_confirm.proofs.Whole.{want_on}
use Rattle.job_confirm.proofs.reader.Reader.number.Goals as goal

pub returns-in_err-words : goal.returns-in_err-words
returns-in_err-words c = record { read = λ value more b long. want_on _ c.from_residual.result _ c.from_residual.ensures.1 (c.in_err-words.ensures.words _ more b) }

pub returns-in-Some : goal.returns-in-Some
returns-in-Some c = record {
  read = λ value more b long.
      let found = number_found c.args.which value _ _ _ c.in-Some.ensures c.which_word.ensures (ap texts c.deref.ensures.value ∙ c.in_ok-words.ensures.words _ more b) long in
      rw (same_Some _ _ found) (to_z-of_z w64 value long);
}

pub returns : goal.returns
returns c = record {
  read = λ value more b long.
      absurd (none-some value (number_found c.args.which value _ _ _ c.in-None.ensures c.which_word.ensures (ap texts c.deref.ensures.value ∙ c.in_ok-words.ensures.words _ more b) long));
}
