use Rattle.std.proofs.Common.{◌∙◌, ap, sym, refl, length, arith}
use Rattle.std.proofs.lemmas.Result.{err_from_is_err_and}
use Rattle.sheet.specs.Fault.{is_memory}
use Rattle.sheet.specs.Sheet.{read_pins}
use Rattle.itv_base.proofs.Faults.{IsReadingFault-on}
use Rattle.sheet.proofs.NumberedLanes.{length-spans_of, numbered-read}
use Rattle.sheet.proofs.PinLists.{pins-fault, pins-more}
use Rattle.sheet.proofs.pins.read_pins.Goals as goal

pub loop-k-init : goal.loop-k-init
unfolding read_pins
loop-k-init c = rw c.new-pins.ensures.empty refl

pub get-requires : goal.get-requires
get-requires c = omega (arith, ap length c.requires, length-spans_of c.args.lanes.now)

pub returns-in_err-push_pin : goal.returns-in_err-push_pin
returns-in_err-push_pin c =
    let p = err_from_is_err_and c.from_residual.result c.from_residual.ensures.1 in
    let at = numbered-read c.args.lanes.now c.loop-k.k c.get.result.now c.args.spans.now _ c.get.ensures.lane c.requires in
    rw (p.1, p.2) (IsReadingFault-on is_memory _ (read_pins c.args.lanes.now) c.in_err-push_pin.field-0.0
    (λ d is. sym c.loop-k.invariant ∙ pins-fault c.loop-k.pins c.args.lanes.now c.loop-k.k _ at d is)
    c.in_err-push_pin.ensures)

pub loop-k-preserved : goal.loop-k-preserved
loop-k-preserved c =
    let at = numbered-read c.args.lanes.now c.loop-k.k c.get.result.now c.args.spans.now _ c.get.ensures.lane c.requires in
    sym (pins-more c.loop-k.pins c.args.lanes.now c.loop-k.k _ at _ c.in_ok-push_pin.ensures) ∙ c.loop-k.invariant
