use Rattle.std.proofs.Common.{◌≡◌, ◌^◌, ◌-◌, ℤ, neg_ℤ, pos, of_z, to_z, w64, arith, ap, ◌∙◌}
use Rattle.std.specs.Int.{int_min}
use Rattle.std.proofs.lemmas.Int.{ints, to_z-of_z}
use Rattle.job_check.proofs.Reaching.{least_goal}
use Rattle.job_check.proofs.proof_group.goal_of.Goals as goal

pub returns-in-LeastBy : goal.returns-in-LeastBy
returns-in-LeastBy c =
    let value : to_z w64 (of_z w64 c.args.value) ≡ c.args.value = grind (arith, ints, to_z-of_z) in
    let minus : to_z w64 (of_z w64 c.minus.result) ≡ c.minus.result = grind (arith, ints, to_z-of_z) in
    let is : to_z w64 (of_z w64 c.minus.result) ≡ int_min (neg_ℤ c.args.value) (pos (2 ^ 63 - 1)) =
    minus ∙ (c.minus.ensures.value ∙ ap (λ (x : ℤ). int_min (neg_ℤ x) (pos (2 ^ 63 - 1))) value) in
    record { goal = least_goal c.args.net.now c.is_whole.ensures.net c.args.row.now c.args.coming c.in-LeastBy.field-0 c.args.value (to_z w64 (of_z w64 c.minus.result)) c.in-LeastBy.is is }
