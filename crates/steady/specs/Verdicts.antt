-- What is known of a requirement in every cycle of every run.
use Rattle.std.specs.Prelude.{◌<◌, ◌≤◌, ◌+◌, ℕ, ℤ, int_le, Bool, true, false, not, if◌then◌else◌, Option, None, Some}
use Rattle.itv_base.specs.Range.{Allows, Ends}
use Rattle.itv_base.specs.declared.names.Side.{Side}
use Rattle.itv_base.specs.declared.names.Side.TheVariants.{Lower, Upper}
use Rattle.sheet.specs.declared.row.SheetRow.{SheetRow}
use Rattle.compose.specs.Design.{DesignView}
use Rattle.longer_runs.specs.WindowLaws.{HoldsFrom}
use Rattle.longer_runs.specs.Windows.{EveryInCycle}
use Rattle.steady.specs.declared.found.RunBound.{RunBound}
use Rattle.steady.specs.declared.found.RunBound.TheVariants.{Closed, Unbounded, Open}
use Rattle.steady.specs.declared.found.RowFound.{RowFound}
use Rattle.steady.specs.declared.verdict.RunVerdict.{RunVerdict}
use Rattle.steady.specs.declared.verdict.RunVerdict.TheVariants.{Fail, Pass, Undecided, Vary}

-- ---- what the verdicts say

-- each satisfying separation is in the range, in each cycle from a first one on of each run of at least so many cycles
abbrev pub IsMetAlways : DesignView → SheetRow → Ends → ℕ → ℕ → Type 0
IsMetAlways d row range start cycles = (more : ℕ) → HoldsFrom (Allows range) d row start (cycles + more)

-- in each cycle of each run some satisfying separation is out of the range
abbrev pub IsBrokenAlways : DesignView → SheetRow → Ends → Type 0
IsBrokenAlways d row range = (cycles cycle : ℕ) → row.shift ≤ cycle → cycle < cycles → EveryInCycle (Allows range) d row cycles cycle → ⊥

-- in some cycle, from a first one on, of the run of so many cycles some satisfying separation is out of the range
abbrev pub IsBrokenOnce : DesignView → SheetRow → Ends → ℕ → ℕ → Type 0
IsBrokenOnce d row range start cycles = HoldsFrom (Allows range) d row start cycles → ⊥

-- what a verdict says of a requirement of a row
abbrev pub IsRunVerdict : DesignView → SheetRow → Ends → ℕ → ℕ → RunVerdict → Type 0
IsRunVerdict d row range start cycles Pass = IsMetAlways d row range start cycles
IsRunVerdict d row range start cycles (Fail side) = IsBrokenAlways d row range
IsRunVerdict d row range start cycles (Vary side) = IsBrokenOnce d row range start cycles
IsRunVerdict d row range start cycles Undecided = Unit {0}

-- ---- which verdict follows

-- a number is not past an end on its side; an open end allows all
abbrev pub is_kept : Side → Option ℤ → ℤ → Bool
is_kept side None value = true
is_kept Upper (Some end) value = int_le value end
is_kept Lower (Some end) value = int_le end value

abbrev pub is_open_end : Option ℤ → Bool
is_open_end None = true
is_open_end (Some end) = false

-- steady times are past an end
abbrev pub is_steadily_past : Side → Option ℤ → Option ℤ → Bool
is_steadily_past side end None = false
is_steadily_past side end (Some value) = not (is_kept side end value)

-- what a bound says of an end on its side
abbrev pub end_verdict : Side → Option ℤ → RunBound → RunVerdict
end_verdict side None bound = Pass
end_verdict side (Some end) (Closed value steady) =
    if is_kept side (Some end) value then Pass else if is_steadily_past side (Some end) steady then Fail side else Vary side
end_verdict side (Some end) Unbounded = Vary side
end_verdict side (Some end) Open = Undecided

-- The verdict of both ends. A failure goes before what varies, what varies before what is undecided, and the low end before the high end.
abbrev pub worst_of : RunVerdict → RunVerdict → RunVerdict
worst_of (Fail side) other = Fail side
worst_of Pass other = other
worst_of (Vary side) (Fail other) = Fail other
worst_of (Vary side) Pass = Vary side
worst_of (Vary side) (Vary other) = Vary side
worst_of (Vary side) Undecided = Vary side
worst_of Undecided (Fail other) = Fail other
worst_of Undecided (Vary other) = Vary other
worst_of Undecided Pass = Undecided
worst_of Undecided Undecided = Undecided

abbrev pub verdict_of : Ends → RowFound → RunVerdict
verdict_of range found = worst_of (end_verdict Lower range.low found.least) (end_verdict Upper range.high found.greatest)
