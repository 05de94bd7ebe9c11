-- How large the numbers of a network can be, in picoseconds.
use Rattle.std.specs.Prelude.{◌*◌, ◌+◌, ℕ, ℤ, pos, neg_ℤ, ◌≤ℤ◌, unsigned_abs}
use Rattle.itv_base.specs.declared.limits.TheConstants.{END_LIMIT, MAX_EVENTS}

-- the greatest weight of an edge, which is the limit of a finite end
abbrev pub weight_limit : ℕ
weight_limit = unsigned_abs END_LIMIT

-- the greatest weight times the greatest number of events: no path that meets each event at most once has a greater sum
abbrev pub reach_limit : ℕ
reach_limit = weight_limit * MAX_EVENTS

-- a number is within the reach of a path, in absolute value
abbrev pub IsReach : ℤ → Type 0
IsReach sum = (neg_ℤ (pos reach_limit) ≤ℤ sum) × (sum ≤ℤ pos reach_limit)

-- the greatest time that a report prints. Such a time is a separation of times that a search left, or a separation of these times raised past an end.
-- The separations that a search left are within nine times the reach of a path.
abbrev pub printed_limit : ℕ
printed_limit = 12 * reach_limit + weight_limit + 1

-- a time that a report prints is within `printed_limit`, in absolute value
abbrev pub IsPrintedTime : ℤ → Type 0
IsPrintedTime time = (neg_ℤ (pos printed_limit) ≤ℤ time) × (time ≤ℤ pos printed_limit)
