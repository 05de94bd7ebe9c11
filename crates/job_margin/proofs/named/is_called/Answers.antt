use Rattle.std.proofs.Common.{◌++◌, ◌∙◌, ap, codes, sym}
use Rattle.std.specs.Option.{option_copied}
use Rattle.itv_base.specs.Cuts.{stripped}
use Rattle.itv_base.specs.Numerals.{number_text}
use Rattle.job_margin.proofs.Called.{called_none, called_rest}
use Rattle.job_margin.proofs.named.is_called.Goals as goal

pub returns-in-Some : goal.returns-in-Some
returns-in-Some c =
    rw (
      c.in-Edge.is,
      called_rest c.args.text.now c.in-Edge.part (codes " edge " ++ number_text c.in-Edge.edge) c.in-Some.rest.now
          (ap (λ front. stripped front c.args.text.now) (sym c.as_text.ensures.text) ∙ sym c.strip.ensures.rest ∙ ap option_copied c.in-Some.is),
    ) c.is_spelled.ensures

pub returns-in-None : goal.returns-in-None
returns-in-None c =
    rw c.in-Edge.is (sym (called_none c.args.text.now c.in-Edge.part (codes " edge " ++ number_text c.in-Edge.edge)
    (ap (λ front. stripped front c.args.text.now) (sym c.as_text.ensures.text) ∙ sym c.strip.ensures.rest ∙ ap option_copied c.in-None.is)))
