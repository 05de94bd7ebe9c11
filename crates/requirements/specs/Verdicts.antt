-- The verdict on a requirement according to the two bounds of its pair.
use Rattle.std.specs.Prelude.{ℤ, Bool, true, false, ◌&&◌, int_lt, int_le, if◌then◌else◌, Option, Some, None}
use Rattle.itv_base.specs.Range.{Ends}
use Rattle.requirements.specs.declared.bound.Bound.{Bound}
use Rattle.requirements.specs.declared.bound.Bound.TheVariants.{Closed, Unbounded, Within}
use Rattle.requirements.specs.declared.verdict.Verdict.{Verdict}
use Rattle.requirements.specs.declared.verdict.Verdict.TheVariants.{Pass, FailHigh, FailLow, Undecided}

-- the high end is broken: a satisfying separation is past it
abbrev pub breaks_high : Option ℤ → Bound → Bool
breaks_high None greatest = false
breaks_high (Some high) (Closed value) = int_lt high value
breaks_high (Some high) Unbounded = true
breaks_high (Some high) (Within limit None) = false
breaks_high (Some high) (Within limit (Some found)) = int_lt high found

-- the low end is broken
abbrev pub breaks_low : Option ℤ → Bound → Bool
breaks_low None least = false
breaks_low (Some low) (Closed value) = int_lt value low
breaks_low (Some low) Unbounded = true
breaks_low (Some low) (Within limit None) = false
breaks_low (Some low) (Within limit (Some found)) = int_lt found low

-- the high end is fine: no satisfying separation is past it
abbrev pub meets_high : Option ℤ → Bound → Bool
meets_high None greatest = true
meets_high (Some high) (Closed value) = int_le value high
meets_high (Some high) Unbounded = false
meets_high (Some high) (Within None attained) = false
meets_high (Some high) (Within (Some most) attained) = int_le most high

-- the low end is fine
abbrev pub meets_low : Option ℤ → Bound → Bool
meets_low None least = true
meets_low (Some low) (Closed value) = int_le low value
meets_low (Some low) Unbounded = false
meets_low (Some low) (Within None attained) = false
meets_low (Some low) (Within (Some fewest) attained) = int_le low fewest

-- the verdict: broken sides come before fine ones, and the high side before the low one
abbrev pub verdict_of : Ends → Bound → Bound → Verdict
verdict_of range least greatest =
    if breaks_high range.high greatest then FailHigh else (if breaks_low range.low least then FailLow else (if meets_high range.high greatest && meets_low range.low least then Pass else Undecided))
