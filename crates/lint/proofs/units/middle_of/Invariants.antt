use Rattle.std.proofs.Common.{◌≡◌, ◌<◌, ◌≤◌, ◌-◌, ℕ, true, false}
use Rattle.lint.specs.Step.{has_most_above}
use Rattle.lint.proofs.units.middle_of.Given as goal

-- most sizes are above all numbers below `least`, and not above `most`
abbrev pub invariant-halves : goal.invariant-halves
invariant-halves l = (l.least ≤ l.most) × ((number : ℕ) → number < l.least → has_most_above l.sizes number ≡ true) × (has_most_above l.sizes l.most ≡ false)

abbrev pub decreases-halves : goal.decreases-halves
decreases-halves l = l.most - l.least
