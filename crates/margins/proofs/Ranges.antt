-- How far the end of one range can be moved.
use Rattle.std.proofs.Common.{◌≡◌, ◌⊎◌, inl, inr, ℤ, pos, ◌+ℤ◌, ◌-ℤ◌, ◌≤ℤ◌, Bool, true, false, IsTrue, Option, Some, None, option_map, refl, arith}
use Rattle.std.proofs.lemmas.Int.{clamps, ints}
use Rattle.itv_base.specs.Range.{Ends, IsEnd, IsRange}
use Rattle.itv_base.specs.declared.names.Side.{Side}
use Rattle.itv_base.specs.declared.names.Side.TheVariants.{Lower, Upper}
use Rattle.event_graph.specs.Network.{AreEnds}
use Rattle.moves.specs.Moving.{opened, widened}
use Rattle.moves.specs.Step.{IsMoveBy}
use Rattle.margins.specs.Reaching.{lower_reach, range_reach, reach_within, upper_reach}
use Rattle.margins.specs.declared.reach.Reach.{Reach}

-- a move is within a reach
abbrev pub IsWithin : Reach → ℤ → Type 0
IsWithin reach by = (reach.least ≤ℤ by) × (by ≤ℤ reach.most)

-- ---- a move within the reach can be drawn

lower_can : (reach : Reach) (low high : Option ℤ) (by : ℤ) → IsEnd low → IsEnd high → IsWithin (lower_reach reach low high) by
    → IsWithin reach by × IsRange (record { low = option_map (λ z. z -ℤ by) low; high = high })
lower_can reach None high by l h within = (within, (tt, h, tt))
lower_can reach (Some low) None by l h within =
    ((omega (arith, ints, clamps, within.0, within.1), omega (arith, ints, clamps, within.0, within.1)), ((omega (arith, ints, clamps, within.0, within.1, l.0, l.1), omega (arith, ints, clamps, within.0, within.1, l.0, l.1)), tt, tt))
lower_can reach (Some low) (Some high) by l h within = (
  (omega (arith, ints, clamps, within.0, within.1), omega (arith, ints, clamps, within.0, within.1)),
  (
    (omega (arith, ints, clamps, within.0, within.1, l.0, l.1, h.0, h.1), omega (arith, ints, clamps, within.0, within.1, l.0, l.1, h.0, h.1)),
    h,
    omega (arith, ints, clamps, within.0, within.1),
  ),
)

upper_can : (reach : Reach) (low high : Option ℤ) (by : ℤ) → IsEnd low → IsEnd high → IsWithin (upper_reach reach low high) by
    → IsWithin reach by × IsRange (record { low = low; high = option_map (λ z. z +ℤ by) high })
upper_can reach None None by l h within = (within, (tt, tt, tt))
upper_can reach (Some low) None by l h within = (within, (l, tt, tt))
upper_can reach None (Some high) by l h within =
    ((omega (arith, ints, clamps, within.0, within.1), omega (arith, ints, clamps, within.0, within.1)), (tt, (omega (arith, ints, clamps, within.0, within.1, h.0, h.1), omega (arith, ints, clamps, within.0, within.1, h.0, h.1)), tt))
upper_can reach (Some low) (Some high) by l h within = (
  (omega (arith, ints, clamps, within.0, within.1), omega (arith, ints, clamps, within.0, within.1)),
  (
    l,
    (omega (arith, ints, clamps, within.0, within.1, l.0, l.1, h.0, h.1), omega (arith, ints, clamps, within.0, within.1, l.0, l.1, h.0, h.1)),
    omega (arith, ints, clamps, within.0, within.1),
  ),
)

range_can : (side : Side) (reach : Reach) (range : Ends) (by : ℤ) → AreEnds range → IsWithin (range_reach side reach range) by → IsWithin reach by × IsRange (widened side by range)
range_can Lower reach range by ends within = lower_can reach range.low range.high by ends.0 ends.1 within
range_can Upper reach range by ends within = upper_can reach range.low range.high by ends.0 ends.1 within

-- the same of a range that may be drawn
pub one_can : (side : Side) (is_drawn : Bool) (reach : Reach) (range : Ends) (by : ℤ) → AreEnds range → IsWithin (reach_within side is_drawn reach range) by
    → IsWithin reach by × (IsTrue is_drawn → IsRange (widened side by range))
one_can side true reach range by ends within = let can = range_can side reach range by ends within in (can.0, λ drawn. can.1)
one_can side false reach range by ends within = (within, λ drawn. absurd (cc drawn))

-- ---- a move that can be drawn is within the reach

lower_within : (reach : Reach) (low high : Option ℤ) (by : ℤ) → IsWithin reach by → IsRange (record { low = option_map (λ z. z -ℤ by) low; high = high })
    → IsWithin (lower_reach reach low high) by
lower_within reach None high by within range = within
lower_within reach (Some low) None by within range = (omega (arith, ints, clamps, within.0, range.0.0, range.0.1), omega (arith, ints, clamps, within.1, range.0.0, range.0.1))
lower_within reach (Some low) (Some high) by within range = (omega (arith, ints, clamps, within.0, range.2), omega (arith, ints, clamps, within.1, range.0.0, range.0.1))

upper_within : (reach : Reach) (low high : Option ℤ) (by : ℤ) → IsWithin reach by → IsRange (record { low = low; high = option_map (λ z. z +ℤ by) high })
    → IsWithin (upper_reach reach low high) by
upper_within reach low None by within range = within
upper_within reach None (Some high) by within range = (omega (arith, ints, clamps, within.0, range.1.0, range.1.1), omega (arith, ints, clamps, within.1, range.1.0, range.1.1))
upper_within reach (Some low) (Some high) by within range = (omega (arith, ints, clamps, within.0, range.2), omega (arith, ints, clamps, within.1, range.1.0, range.1.1))

range_within : (side : Side) (reach : Reach) (range : Ends) (by : ℤ) → IsWithin reach by → IsRange (widened side by range) → IsWithin (range_reach side reach range) by
range_within Lower reach range by within can = lower_within reach range.low range.high by within can
range_within Upper reach range by within can = upper_within reach range.low range.high by within can

pub one_within : (side : Side) (is_drawn : Bool) (reach : Reach) (range : Ends) (by : ℤ) → IsWithin reach by → (IsTrue is_drawn → IsRange (widened side by range))
    → IsWithin (reach_within side is_drawn reach range) by
one_within side true reach range by within can = range_within side reach range by within (can refl)
one_within side false reach range by within can = within

-- ---- the reach stays between the limits of moves, and holds moves outward

-- a reach between the limits, which holds a move outward
pub record IsFair (reach : Reach) : Type 0 where
  pub low : IsMoveBy reach.least
  pub high : IsMoveBy reach.most
  pub outward : pos 0 ≤ℤ reach.most

lower_fair : (reach : Reach) (low high : Option ℤ) → IsEnd low → IsEnd high → IsFair reach → IsFair (lower_reach reach low high)
lower_fair reach None high l h fair = fair
lower_fair reach (Some low) None l h fair = record {
  low = (omega (arith, ints, clamps, fair.low.0, fair.low.1, l.0, l.1), omega (arith, ints, clamps, fair.low.0, fair.low.1, l.0, l.1));
  high = (omega (arith, ints, clamps, fair.high.0, fair.high.1, l.0, l.1), omega (arith, ints, clamps, fair.high.0, fair.high.1, l.0, l.1));
  outward = omega (arith, ints, clamps, fair.outward, l.0, l.1);
}
lower_fair reach (Some low) (Some high) l h fair = record {
  low = (omega (arith, ints, clamps, fair.low.0, fair.low.1, l.0, l.1, h.0, h.1), omega (arith, ints, clamps, fair.low.0, fair.low.1, l.0, l.1, h.0, h.1));
  high = (omega (arith, ints, clamps, fair.high.0, fair.high.1, l.0, l.1), omega (arith, ints, clamps, fair.high.0, fair.high.1, l.0, l.1));
  outward = omega (arith, ints, clamps, fair.outward, l.0, l.1);
}

upper_fair : (reach : Reach) (low high : Option ℤ) → IsEnd low → IsEnd high → IsFair reach → IsFair (upper_reach reach low high)
upper_fair reach low None l h fair = fair
upper_fair reach None (Some high) l h fair = record {
  low = (omega (arith, ints, clamps, fair.low.0, fair.low.1, h.0, h.1), omega (arith, ints, clamps, fair.low.0, fair.low.1, h.0, h.1));
  high = (omega (arith, ints, clamps, fair.high.0, fair.high.1, h.0, h.1), omega (arith, ints, clamps, fair.high.0, fair.high.1, h.0, h.1));
  outward = omega (arith, ints, clamps, fair.outward, h.0, h.1);
}
upper_fair reach (Some low) (Some high) l h fair = record {
  low = (omega (arith, ints, clamps, fair.low.0, fair.low.1, l.0, l.1, h.0, h.1), omega (arith, ints, clamps, fair.low.0, fair.low.1, l.0, l.1, h.0, h.1));
  high = (omega (arith, ints, clamps, fair.high.0, fair.high.1, h.0, h.1), omega (arith, ints, clamps, fair.high.0, fair.high.1, h.0, h.1));
  outward = omega (arith, ints, clamps, fair.outward, h.0, h.1);
}

pub one_fair : (side : Side) (is_drawn : Bool) (reach : Reach) (range : Ends) → AreEnds range → IsFair reach → IsFair (reach_within side is_drawn reach range)
one_fair Lower true reach range ends fair = lower_fair reach range.low range.high ends.0 ends.1 fair
one_fair Upper true reach range ends fair = upper_fair reach range.low range.high ends.0 ends.1 fair
one_fair Lower false reach range ends fair = fair
one_fair Upper false reach range ends fair = fair

-- ---- a range without an end

-- a move changes nothing in a range, nor does it change anything to open the end, nor does the reach look at it
pub record IsStillRange (side : Side) (range : Ends) : Type 0 where
  pub widened : (by : ℤ) → widened side by range ≡ range
  pub opened : opened side range ≡ range
  pub reach : (reach : Reach) → range_reach side reach range ≡ reach

lower_far : (low high : Option ℤ) (by : ℤ) → IsEnd low → IsRange (record { low = option_map (λ z. z -ℤ by) low; high = high })
    → IsMoveBy by ⊎ IsStillRange Lower (record { low = low; high = high })
lower_far None high by l range = inr (record { widened = λ by. refl; opened = refl; reach = λ reach. refl })
lower_far (Some low) high by l range = inl (omega (arith, ints, l.0, l.1, range.0.0, range.0.1), omega (arith, ints, l.0, l.1, range.0.0, range.0.1))

upper_far : (low high : Option ℤ) (by : ℤ) → IsEnd high → IsRange (record { low = low; high = option_map (λ z. z +ℤ by) high })
    → IsMoveBy by ⊎ IsStillRange Upper (record { low = low; high = high })
upper_far low None by h range = inr (record { widened = λ by. refl; opened = refl; reach = λ reach. refl })
upper_far low (Some high) by h range = inl (omega (arith, ints, h.0, h.1, range.1.0, range.1.1), omega (arith, ints, h.0, h.1, range.1.0, range.1.1))

-- a move that can be drawn is a move that there is, or there is no end
pub range_far : (side : Side) (range : Ends) (by : ℤ) → AreEnds range → IsRange (widened side by range) → IsMoveBy by ⊎ IsStillRange side range
range_far Lower range by ends can = lower_far range.low range.high by ends.0 can
range_far Upper range by ends can = upper_far range.low range.high by ends.1 can
