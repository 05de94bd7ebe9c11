use Rattle.std.proofs.Common.{Bool, Option, ap, ◌∙◌, sym, option_map}
use Rattle.std.proofs.lemmas.Option.{none-some, same_Some}
use Rattle.std.specs.Global.{Vec}
use Rattle.line_words.specs.Views.{texts}
use Rattle.job_confirm.proofs.Found.{set_found}
use Rattle.job_confirm.proofs.Whole.{want_on}
use Rattle.job_confirm.proofs.reader.Reader.raised.Goals as goal

pub returns-in_err-words : goal.returns-in_err-words
returns-in_err-words c = record { read = λ set more b count. want_on _ c.from_residual.result _ c.from_residual.ensures.1 (c.in_err-words.ensures.words _ more b) }

pub returns-in-Some : goal.returns-in-Some
returns-in-Some c = record {
  read = λ set more b count.
      let found = set_found set c.args.events _ _ c.in_ok-set.ensures (ap texts c.deref.ensures.value ∙ c.in_ok-words.ensures.words _ more b) count in
      same_Some c.in-Some.set.items set (sym (ap (λ (o : Option (Vec Bool)). option_map (λ v. v.items) o) c.in-Some.is) ∙ found);
}

pub returns : goal.returns
returns c = record {
  read = λ set more b count.
      let found = set_found set c.args.events _ _ c.in_ok-set.ensures (ap texts c.deref.ensures.value ∙ c.in_ok-words.ensures.words _ more b) count in
      absurd (none-some set (sym (ap (λ (o : Option (Vec Bool)). option_map (λ v. v.items) o) c.in-None.is) ∙ found));
}
