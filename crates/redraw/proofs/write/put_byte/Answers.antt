use Rattle.std.proofs.Common.{sym, ◌∙◌}
use Rattle.itv_base.proofs.Written.{puts_same}
use Rattle.redraw.proofs.Pieces.{byte_behind, byte_plain}
use Rattle.redraw.proofs.write.put_byte.Goals as goal

pub returns-then-needs_backslash : goal.returns-then-needs_backslash
returns-then-needs_backslash g c =
    puts_same _ _ _ _ _ (sym (byte_behind c.args.byte (sym c.needs_backslash.ensures ∙ c.if-needs_backslash.true))) c.put.ensures.puts

pub returns : goal.returns
returns g c = puts_same _ _ _ _ _ (sym (byte_plain c.args.byte (sym c.needs_backslash.ensures ∙ c.if-needs_backslash.false))) c.put-2.ensures.puts
