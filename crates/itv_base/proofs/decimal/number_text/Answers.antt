use Rattle.std.proofs.Common.{◌∙◌, sym, arith}
use Rattle.itv_base.proofs.Printed.{number_text-decimal}
use Rattle.itv_base.proofs.decimal.number_text.Goals as goal

pub returns : goal.returns
returns c = record { text = c.format.ensures.text ∙ sym (number_text-decimal c.args.number (omega arith)) }
