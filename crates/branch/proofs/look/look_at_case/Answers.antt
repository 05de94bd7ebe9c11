use Rattle.std.proofs.Common.{◌≡◌, ◌<ℤ◌, false, ℤ, to_z, of_z, w64, subst, arith}
use Rattle.std.proofs.lemmas.Int.{ints, to_z-of_z}
use Rattle.std.specs.Int.Signed.{le_z}
use Rattle.branch.proofs.look.look_at_case.Goals as goal

above : (a b : ℤ) → le_z a b ≡ false → b <ℤ a
above a b not_within = grind (arith, ints)

pub returns-in-Some-2-clause-looks : goal.returns-in-Some-2-clause-looks
returns-in-Some-2-clause-looks c =
    let passed : to_z w64 (of_z w64 c.args.best) ≡ c.args.best = to_z-of_z w64 c.args.best c.ranges.best in
    let upper : ℤ = to_z w64 (of_z w64 c.in-Some.upper) in
    let past : c.args.best <ℤ upper = subst (λ (b : ℤ). b <ℤ upper) passed (above upper (to_z w64 (of_z w64 c.args.best)) c.if-upper-best.false) in
    c.look_at_bound.ensures.looks c.args.best past

pub returns-in-None-clause-looks : goal.returns-in-None-clause-looks
returns-in-None-clause-looks c = c.look_at_ray.ensures.looks c.args.best
