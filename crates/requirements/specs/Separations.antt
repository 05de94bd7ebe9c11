-- What is found of a separation, apart from what shows it.
use Rattle.std.specs.Prelude.{neg_ℤ, Bool, true, false, option_map}
use Rattle.requirements.specs.declared.bound.Bound.{Bound}
use Rattle.requirements.specs.declared.bound.Bound.TheVariants as bounds
use Rattle.requirements.specs.declared.separation.Separation.{Separation}
use Rattle.requirements.specs.declared.separation.Separation.TheVariants.{Closed, Unbounded, Open}

-- the bound alone
abbrev pub bound_of : {C U : Type 0} → Separation C U → Bound
bound_of (Closed value shown) = bounds.Closed value
bound_of (Unbounded shown) = bounds.Unbounded
bound_of (Open limit attained) = bounds.Within limit attained

-- it was left open
abbrev pub is_open : {C U : Type 0} → Separation C U → Bool
is_open (Closed value shown) = false
is_open (Unbounded shown) = false
is_open (Open limit attained) = true

-- the separation with its numbers negated, shown by the same
abbrev pub reversed_found : {C U : Type 0} → Separation C U → Separation C U
reversed_found (Closed value shown) = Closed (neg_ℤ value) shown
reversed_found (Unbounded shown) = Unbounded shown
reversed_found (Open limit attained) = Open (option_map neg_ℤ limit) (option_map neg_ℤ attained)
