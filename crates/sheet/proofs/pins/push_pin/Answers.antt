use Rattle.std.proofs.Common.{◌∙◌, sym}
use Rattle.sheet.proofs.PinLists.{pin-named, pin-stood, pin-new}
use Rattle.sheet.proofs.pins.push_pin.Goals as goal

pub returns-then-has_pin : goal.returns-then-has_pin
returns-then-has_pin c =
    let stood = rw c.as_slice.ensures.items at (sym c.has_pin.ensures ∙ c.if-has_pin.true) in
    rw (pin-named c.args.number c.args.lane.now c.args.span c.in-Some.name c.in-Some.is c.if-span-eq0.false) (pin-stood c.args.pins.now _ stood)

pub returns : goal.returns
returns c =
    let new = rw c.as_slice.ensures.items at (sym c.has_pin.ensures ∙ c.if-has_pin.false) in
    rw (c.in_ok-push.ensures.ok, c.in_ok-from_text.ensures.copy, c.as_text.ensures.text, pin-named c.args.number c.args.lane.now c.args.span c.in-Some.name c.in-Some.is c.if-span-eq0.false)
    (pin-new c.args.pins.now _ new)
