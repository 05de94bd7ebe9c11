-- How large the labels and times of bounds are, in picoseconds.
use Rattle.std.specs.Prelude.{◌*◌, ℕ, ℤ, pos, neg_ℤ, ◌≤ℤ◌}
use Rattle.event_graph.specs.Limits.{reach_limit}

-- twice the reach of a path
abbrev pub near_limit : ℕ
near_limit = 2 * reach_limit

-- a time that `times_into` writes: not below 0 by more than the reach of a path, nor above 0 by more than twice the reach of a path
abbrev pub IsTimely : ℤ → Type 0
IsTimely time = (neg_ℤ (pos reach_limit) ≤ℤ time) × (time ≤ℤ pos near_limit)
