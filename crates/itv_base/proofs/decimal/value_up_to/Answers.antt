use Rattle.std.proofs.Common.{sym, arith}
use Rattle.itv_base.proofs.Numbers.{parse_none}
use Rattle.itv_base.proofs.decimal.value_up_to.Goals as goal

pub returns-in_err-value : goal.returns-in_err-value
returns-in_err-value c =
    rw c.from_residual.ensures (record { value = parse_none c.args.numeral.now c.args.limit _ c.requires (omega arith) c.parse.ensures.value.0 (sym c.in_err-value.ensures.value) })
