-- Signed numbers that are passed on as they are.
use Rattle.std.proofs.Common.{◌≡◌, ◌+◌, ◌*◌, ◌⊎◌, ℤ, pos, neg_ℤ, ◌+ℤ◌, ◌-ℤ◌, ◌≤ℤ◌, SFits, to_z, of_z, w64, sym, subst, inl, inr, rules, arith}
use Rattle.std.proofs.lemmas.Int.{ints, to_z-of_z}
use Rattle.event_graph.specs.Limits.{reach_limit, weight_limit}
use Rattle.diff_bounds.specs.Limits.{IsTimely}
use Rattle.branch.specs.Step.Raising.{IsNearSeparation}
use Rattle.branch.proofs.RaisingSets.{rise_high, rise_reaches}

-- a timely time is passed on as it is
pub passed_near : (value : ℤ) → IsTimely value → to_z w64 (of_z w64 value) ≡ value
passed_near value near = let fits : SFits w64 value = search rules in to_z-of_z w64 value fits

pub passed_separation : (value : ℤ) → IsNearSeparation value → to_z w64 (of_z w64 value) ≡ value
passed_separation value near = let fits : SFits w64 value = search rules in to_z-of_z w64 value fits

-- a number to raise by is passed on as it is
pub passed_rise : (value : ℤ) → pos 0 ≤ℤ value → value ≤ℤ pos (6 * reach_limit) → to_z w64 (of_z w64 value) ≡ value
passed_rise value low high = let fits : SFits w64 value = search rules in to_z-of_z w64 value fits

-- a raised time is passed on as it is
pub passed_raised : (value : ℤ) → neg_ℤ (pos reach_limit) ≤ℤ value → value ≤ℤ pos (8 * reach_limit) → to_z w64 (of_z w64 value) ≡ value
passed_raised value low high = let fits : SFits w64 value = search rules in to_z-of_z w64 value fits

-- any number within six times the reach of a path is passed on as it is
pub passed_wide : (value : ℤ) → neg_ℤ (pos (6 * reach_limit)) ≤ℤ value → value ≤ℤ pos (6 * reach_limit) → to_z w64 (of_z w64 value) ≡ value
passed_wide value low high = let fits : SFits w64 value = search rules in to_z-of_z w64 value fits

abbrev pub passed : ℤ → ℤ
passed value = to_z w64 (of_z w64 value)

-- the number, as it is passed on, is enough to raise by
pub record IsEnough (highest lowest first last reach result : ℤ) : Type 0 where
  pub high : to_z w64 (of_z w64 result) ≤ℤ pos (6 * reach_limit)
  pub reached : reach ≤ℤ ((last -ℤ first) +ℤ to_z w64 (of_z w64 result))

pub is_enough : (highest lowest first last reach gap short most result : ℤ) → IsTimely highest → IsTimely lowest → IsTimely first → IsTimely last → IsNearSeparation reach
    → gap ≡ ((highest -ℤ lowest) +ℤ pos (weight_limit + 1)) → short ≡ passed reach -ℤ (passed last -ℤ passed first)
    → (most ≡ passed gap) ⊎ (most ≡ passed short) → passed short ≤ℤ most → (result ≡ passed most) ⊎ (result ≡ pos 0) → passed most ≤ℤ result
    → IsEnough highest lowest first last reach result
is_enough highest lowest first last reach gap short most result h l f t r is_gap is_short by_most up by_result higher =
    let passed_reach : passed reach ≡ reach = passed_separation reach r in
    let passed_last : passed last ≡ last = passed_near last t in
    let passed_first : passed first ≡ first = passed_near first f in
    let short_is : short ≡ reach -ℤ (last -ℤ first) = omega (arith, ints, is_short, passed_reach, passed_last, passed_first) in
    let passed_gap : passed gap ≡ gap = passed_wide gap (omega (arith, ints)) (omega (arith, ints)) in
    let passed_short : passed short ≡ short = passed_wide short (omega (arith, ints)) (omega (arith, ints)) in
    let most_is : (most ≡ gap) ⊎ (most ≡ short) = rw (passed_gap, passed_short) at by_most in
    let passed_most : passed most ≡ most = elim most_is [
      | inl is ↦ passed_wide most (omega (arith, ints)) (omega (arith, ints))
      | inr is ↦ passed_wide most (omega (arith, ints)) (omega (arith, ints))
    ] in
    let result_is : (result ≡ most) ⊎ (result ≡ pos 0) = rw passed_most at by_result in
    let high = rise_high highest lowest first last reach gap short most result h l f t r is_gap short_is most_is result_is in
    let up_most : short ≤ℤ most = rw passed_short at up in
    let up_result : most ≤ℤ result = rw passed_most at higher in
    let passed_result : passed result ≡ result = elim result_is [
      | inl is ↦ subst (λ (z : ℤ). passed z ≡ z) (sym is) passed_most
      | inr is ↦ passed_wide result (omega (arith, ints)) (omega (arith, ints))
    ] in
    record {
      high = subst (λ (z : ℤ). z ≤ℤ pos (6 * reach_limit)) (sym passed_result) high;
      reached = subst (λ (z : ℤ). reach ≤ℤ ((last -ℤ first) +ℤ z)) (sym passed_result) (rise_reaches first last reach short most result short_is up_most up_result);
    }
