use Rattle.std.proofs.Common.{◌∙◌, ap, sym}
use Rattle.std.specs.Option.{option_copied}
use Rattle.itv_base.specs.Numerals.{number_text}
use Rattle.job_margin.proofs.Called.{called_none, called_rest}
use Rattle.job_margin.proofs.named.is_spelled.Goals as goal

pub returns-in-Some : goal.returns-in-Some
returns-in-Some c =
    rw (called_rest c.args.text.now c.args.word.now (number_text c.args.number) c.in-Some.rest.now (sym c.strip.ensures.rest ∙ ap option_copied c.in-Some.is), ← c.number_text.ensures.text) c.eq.ensures

pub returns-in-None : goal.returns-in-None
returns-in-None c = sym (called_none c.args.text.now c.args.word.now (number_text c.args.number) (sym c.strip.ensures.rest ∙ ap option_copied c.in-None.is))
