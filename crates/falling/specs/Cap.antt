-- The numbers, in picoseconds, that a solver starts from and ends at.
use Rattle.std.specs.Prelude.{◌+◌, ◌*◌, ℕ, ℤ, pos, neg_ℤ, ◌≤ℤ◌, unsigned_abs, max, List, [], ◌∷◌, Option, Some, None}
use Rattle.itv_base.specs.declared.limits.TheConstants.{MAX_EVENTS}
use Rattle.event_graph.specs.declared.cause.Cause.{Cause}
use Rattle.event_graph.specs.Limits.{weight_limit}
use Rattle.event_graph.specs.Network.{Constraint, Net}

-- the absolute value of an end, 0 where it is open
abbrev pub end_size : Option ℤ → ℕ
end_size None = 0
end_size (Some end) = unsigned_abs end

-- the greatest absolute value of the finite ends of some causes, 0 where no end is finite
abbrev pub widest_of_causes : List Cause → ℕ
widest_of_causes [] = 0
widest_of_causes (c ∷ cs) = max (max (end_size c.range.low) (end_size c.range.high)) (widest_of_causes cs)

-- the greatest absolute value of the finite ends of some constraints, 0 where no end is finite
abbrev pub widest_of : List Constraint → ℕ
widest_of [] = 0
widest_of (k ∷ ks) = max (widest_of_causes k.causes) (widest_of ks)

-- the greatest absolute value of a finite end of a network, 0 where no end is finite
abbrev pub widest_end : Net → ℕ
widest_end net = widest_of net.constraints

-- where a derivation starts the events other than its source
abbrev pub cap : Net → ℕ
cap net = 2 * net.events * (widest_end net + 1)

-- a value of at least this shows that a pair is unbounded, and a value below minus this shows that no times satisfy
abbrev pub far_line : Net → ℕ
far_line net = net.events * (widest_end net + 1)

-- a number of turns in which a derivation ends or settles
abbrev pub enough_turns : Net → ℕ
enough_turns net = net.events * (3 * net.events * (widest_end net + 1) + 1)

-- no cap is greater, and so no value is
abbrev pub cap_limit : ℕ
cap_limit = 2 * MAX_EVENTS * (weight_limit + 1)

-- a value is within the greatest cap in absolute value, so that an end of a range can be added to it, and another value be taken from it
abbrev pub IsNearValue : ℤ → Type 0
IsNearValue value = (neg_ℤ (pos cap_limit) ≤ℤ value) × (value ≤ℤ pos cap_limit)

-- `enough_turns` of no network is greater
abbrev pub enough_limit : ℕ
enough_limit = MAX_EVENTS * (3 * MAX_EVENTS * (weight_limit + 1) + 1)
