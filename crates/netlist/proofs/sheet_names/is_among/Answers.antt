use Rattle.std.proofs.Common.{◌∙◌, sym, true, false}
use Rattle.std.specs.Str.{bytes_eq}
use Rattle.netlist.proofs.PinLists.{any_step}
use Rattle.netlist.proofs.sheet_names.is_among.Goals as goal

pub returns-then-eq : goal.returns-then-eq
returns-then-eq c =
    sym (any_step (bytes_eq c.args.name.now) c.args.names.now c.loop-k.k c.get.result.now true c.get.ensures.item (sym c.eq.ensures ∙ c.if-eq.true)) ∙ c.loop-k.invariant

pub loop-k-preserved : goal.loop-k-preserved
loop-k-preserved c =
    sym (any_step (bytes_eq c.args.name.now) c.args.names.now c.loop-k.k c.get.result.now false c.get.ensures.item (sym c.eq.ensures ∙ c.if-eq.false)) ∙ c.loop-k.invariant
