use Rattle.std.proofs.Common.{◌≡◌, ◌<◌, ◌∙◌, ℕ, ℤ, pos, false, length, to_z, of_z, w64, get_or, subst, sym, arith, rules}
use Rattle.diff_bounds.specs.Limits.{IsTimely}
use Rattle.branch.specs.Step.Raising.{raised_to}
use Rattle.branch.proofs.RaisingSets.{raised_step, rest_step}
use Rattle.branch.proofs.Signs.{passed_near}
use Rattle.branch.proofs.raise.raise_by.Goals as goal

pub loop-event-preserved : goal.loop-event-preserved
loop-event-preserved c =
    let i : ℕ = c.loop-event.event in
    let now = c.loop-event.times in
    let old = c.args.times.now in
    let inv = c.loop-event.invariant in
    let within : i < length old = omega arith in
    let flag : i < length c.args.set.now = omega arith in
    let same : get_or now i (pos 0) ≡ get_or old i (pos 0) = inv.rest i (omega arith) in
    let near : IsTimely (get_or now i (pos 0)) = subst IsTimely (sym same) (c.requires.near i (pos 0) within) in
    let passed : to_z w64 (of_z w64 (get_or now i (pos 0))) ≡ get_or now i (pos 0) = passed_near (get_or now i (pos 0)) near in
    let value : ℤ = to_z w64 (of_z w64 c.moved.result) in
    let is_value : value ≡ c.moved.result = search rules in
    record {
      raised = λ n by.
          let moved : c.moved.result ≡ raised_to (get_or c.args.set.now i false) (get_or now i (pos 0)) n =
          subst (λ t. c.moved.result ≡ raised_to (get_or c.args.set.now i false) t n) passed (c.moved.ensures n by) in
          raised_step c.args.set.now old now i value n flag within (inv.raised n by) same (is_value ∙ moved);
      rest = rest_step now old i value inv.rest;
    }
