use Rattle.std.proofs.Common.{◌≡◌, ◌∙◌, sym, true, arith}
use Rattle.lint.specs.Step.{has_most_above}
use Rattle.lint.proofs.Middle.{middle_is, most_falls, not_most}
use Rattle.lint.proofs.units.middle_of.Goals as goal

pub halves-init : goal.halves-init
halves-init c = (omega arith, λ number less. absurd (omega (arith, less)), not_most c.args.sizes.now _ (λ k. omega (arith, c.type_inv.sizes k)))

pub halves-preserved-then-has_most_above : goal.halves-preserved-then-has_most_above
halves-preserved-then-has_most_above c =
    let most : has_most_above c.args.sizes.now _ ≡ true = sym c.has_most_above.ensures ∙ c.if-has_most_above.true in
    (omega arith, λ number less. most_falls c.args.sizes.now number _ (omega (arith, less)) most, c.halves.invariant.2)

pub returns : goal.returns
returns c =
    let inv = c.halves.invariant in
    let same : c.halves.most ≡ c.halves.least = omega (arith, inv.0, c.halves-test.false) in
    middle_is c.args.sizes.now c.halves.least inv.1 (rw same at inv.2)
