use Rattle.std.proofs.Common.{ℤ, Option, ap, ◌∙◌, sym, option_map}
use Rattle.std.proofs.lemmas.Option.{none-some, same_Some}
use Rattle.std.specs.Global.{Vec}
use Rattle.line_words.specs.Views.{texts}
use Rattle.job_confirm.proofs.Found.{times_found}
use Rattle.job_confirm.proofs.Whole.{want_on}
use Rattle.job_confirm.proofs.reader.Reader.times.Goals as goal

pub returns-in_err-words : goal.returns-in_err-words
returns-in_err-words c = record { read = λ times more b long. want_on _ c.from_residual.result _ c.from_residual.ensures.1 (c.in_err-words.ensures.words _ more b) }

pub returns-in-Some : goal.returns-in-Some
returns-in-Some c = record {
  read = λ times more b long.
      let found = times_found times _ _ c.in_ok-times.ensures (ap texts c.deref.ensures.value ∙ c.in_ok-words.ensures.words _ more b) long in
      same_Some c.in-Some.times.items times (sym (ap (λ (o : Option (Vec ℤ)). option_map (λ v. v.items) o) c.in-Some.is) ∙ found);
}

pub returns : goal.returns
returns c = record {
  read = λ times more b long.
      let found = times_found times _ _ c.in_ok-times.ensures (ap texts c.deref.ensures.value ∙ c.in_ok-words.ensures.words _ more b) long in
      absurd (none-some times (sym (ap (λ (o : Option (Vec ℤ)). option_map (λ v. v.items) o) c.in-None.is) ∙ found));
}
