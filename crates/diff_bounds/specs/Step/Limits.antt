-- How large the labels of a search are, in picoseconds.
use Rattle.std.specs.Prelude.{◌*◌, ℕ, ℤ, pos, neg_ℤ, ◌≤ℤ◌}
use Rattle.diff_bounds.specs.Limits.{near_limit}

-- the absolute value of a time is at most twice the reach of a path
abbrev pub IsNear : ℤ → Type 0
IsNear time = (neg_ℤ (pos near_limit) ≤ℤ time) × (time ≤ℤ pos near_limit)

-- no label falls so far below 0, and no label is so far above 0
abbrev pub fall_limit : ℕ
fall_limit = 2 * near_limit
