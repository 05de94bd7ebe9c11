-- How far an end can be moved.
use Rattle.std.specs.Prelude.{◌≡◌, ◌⊎◌, ℤ, neg_ℤ, pos, ◌+ℤ◌, ◌-ℤ◌, ◌≤ℤ◌, Bool, if◌then◌else◌, List, [], ◌∷◌, Option, Some, None, unwrap_or}
use Rattle.std.specs.Int.{int_max, int_min}
use Rattle.itv_base.specs.Range.{Ends}
use Rattle.itv_base.specs.declared.limits.TheConstants.{END_LIMIT}
use Rattle.itv_base.specs.declared.names.Side.{Side}
use Rattle.itv_base.specs.declared.names.Side.TheVariants.{Lower, Upper}
use Rattle.origin.specs.declared.origin.Origin.{Origin}
use Rattle.event_graph.specs.declared.cause.Cause.{Cause}
use Rattle.event_graph.specs.Network.{Constraint}
use Rattle.drawn_networks.specs.Drawn.{Drawn, name_of}
use Rattle.drawn_numbers.specs.declared.drawn_number.DrawnNumber.{DrawnNumber}
use Rattle.moves.specs.Found.{CanBeDrawn}
use Rattle.moves.specs.Moving.{any_draws}
use Rattle.moves.specs.Step.{IsMoveBy, opened_at, widened_at}
use Rattle.moves.specs.declared.moving.TheConstants.{MOVE_LIMIT}
use Rattle.margins.specs.declared.reach.Reach.{Reach}

-- ---- what the code computes

-- the reach within two numbers
abbrev pub reach_with : Reach → ℤ → ℤ → Reach
reach_with reach least most = record { least = int_max reach.least least; most = int_min reach.most most }

-- the reach with the low end of a range more
abbrev pub lower_reach : Reach → Option ℤ → Option ℤ → Reach
lower_reach reach None high = reach
lower_reach reach (Some low) high = reach_with reach (low -ℤ unwrap_or high END_LIMIT) (low +ℤ END_LIMIT)

-- the reach with the high end of a range more
abbrev pub upper_reach : Reach → Option ℤ → Option ℤ → Reach
upper_reach reach low None = reach
upper_reach reach low (Some high) = reach_with reach (unwrap_or low (neg_ℤ END_LIMIT) -ℤ high) (END_LIMIT -ℤ high)

-- the reach with an end of a range more
abbrev pub range_reach : Side → Reach → Ends → Reach
range_reach Lower reach range = lower_reach reach range.low range.high
range_reach Upper reach range = upper_reach reach range.low range.high

-- the reach with a range more, if it is drawn
abbrev pub reach_within : Side → Bool → Reach → Ends → Reach
reach_within side is_drawn reach range = if is_drawn then range_reach side reach range else reach

-- the reach with causes more, those whose origin meets a test
abbrev pub reach_over : Side → (Origin → Bool) → Reach → List Cause → List Origin → Reach
reach_over side test reach [] origins = reach
reach_over side test reach (cause ∷ causes) [] = reach
reach_over side test reach (cause ∷ causes) (origin ∷ origins) = reach_over side test (reach_within side (test origin) reach cause.range) causes origins

-- the reach with constraints more
abbrev pub reach_along : Drawn → DrawnNumber → Side → Reach → List Constraint → List (List Origin) → Reach
reach_along drawn number side reach [] drew = reach
reach_along drawn number side reach (c ∷ others) [] = reach
reach_along drawn number side reach (c ∷ others) (origins ∷ drew) =
    reach_along drawn number side (reach_over side (any_draws (number ∷ []) (name_of drawn c.target).part) reach c.causes origins) others drew

-- the reach of all moves that there are
abbrev pub any_reach : Reach
any_reach = record { least = neg_ℤ MOVE_LIMIT; most = MOVE_LIMIT }

-- ---- what it says

-- no range that a number draws has an end on a side: a move of it changes nothing, nor does it change anything to open it
pub record IsStill (drawn : Drawn) (number : DrawnNumber) (side : Side) : Type 0 where
  pub widened : (by : ℤ) → widened_at drawn number side by ≡ drawn
  pub opened : opened_at drawn number side ≡ drawn

-- an end can be moved as far as a reach says, and no further, if there is an end; else the reach is that of all moves
pub record IsReachOf (drawn : Drawn) (number : DrawnNumber) (side : Side) (reach : Reach) : Type 0 where
  pub least : IsMoveBy reach.least
  pub most : IsMoveBy reach.most
  pub outward : pos 0 ≤ℤ reach.most
  pub can : (by : ℤ) → reach.least ≤ℤ by → by ≤ℤ reach.most → CanBeDrawn drawn number side by
  pub within : (by : ℤ) → CanBeDrawn drawn number side by → ((reach.least ≤ℤ by) × (by ≤ℤ reach.most)) ⊎ (IsStill drawn number side × (reach ≡ any_reach))
