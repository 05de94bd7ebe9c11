use Rattle.std.proofs.Common.{◌∙◌, sym}
use Rattle.design_reading.proofs.WideNumbers.{number_text-decimal_wide}
use Rattle.design_reading.proofs.put.wide_text.Goals as goal

pub returns : goal.returns
returns c = c.format.ensures.text ∙ sym (number_text-decimal_wide c.args.number c.ranges.number.fits)
