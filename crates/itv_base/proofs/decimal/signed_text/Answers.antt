use Rattle.std.proofs.Common.{w64, rules}
use Rattle.std.specs.Prelude.{FitsSigned}
use Rattle.itv_base.proofs.Printed.{printed_is}
use Rattle.itv_base.proofs.decimal.signed_text.Goals as goal

pub returns : goal.returns
returns c =
    let fits : FitsSigned w64 c.args.number = search rules in
    record { text = printed_is c.args.number _ fits c.format.ensures.text }
