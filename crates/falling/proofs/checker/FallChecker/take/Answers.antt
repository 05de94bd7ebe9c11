use Rattle.std.proofs.Common.{◌≡◌, ◌∙◌, length, sym, ap}
use Rattle.std.proofs.Math.ListN.{length-set}
use Rattle.std.specs.Vec.{with_items}
use Rattle.std.proofs.lemmas.List.{with_items_is}
use Rattle.falling.specs.Derivation.{fallen}
use Rattle.falling.proofs.Begun.{begun_at, fault_at}
use Rattle.falling.proofs.checker.FallChecker.take.Goals as goal

pub returns-in-Err-clause-fault : goal.returns-in-Err-clause-fault
returns-in-Err-clause-fault c =
    fault_at c.args.net.now c.args.self.now _ c.args.line c.deref.result.now c.in-Err.fault c.self.view_is c.requires.begun c.if-self.false c.deref.ensures.value
    c.in-Err.ensures.fault

pub returns-clause-begun : goal.returns-clause-begun
returns-clause-begun c =
    let given : c.deref_mut.result.now ≡ c.deref.result.now = c.deref_mut.ensures.value ∙ sym c.deref.ensures.value in
    let lowered : c.lower.new.values ≡ fallen c.deref.result.now c.args.line = c.lower.ensures ∙ ap (λ v. fallen v c.args.line) given in
    let kept : length c.lower.new.values ≡ length c.self.inside.values.items =
    ap length lowered ∙ (length-set c.deref.result.now c.args.line.event.0 c.args.line.value ∙ ap length c.deref.ensures.value) in
    let items : (with_items c.self.inside.values c.lower.new.values).items ≡ c.lower.new.values =
    with_items_is c.self.inside.values c.lower.new.values (kept ∙ sym c.self.inside.values.ok.0) in
    rw items (begun_at c.args.net.now c.args.self.now _ c.args.line c.lower.new.values c.deref.result.now c.ends-self-inside.result c.self.view_is c.events.ensures.net
    c.requires.begun c.if-self.false c.deref.ensures.value c.in_default.ensures.allowed lowered c.ends-self-inside.ensures)
