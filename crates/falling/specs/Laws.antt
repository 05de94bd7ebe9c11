-- Laws of derivations, over the definitions alone.
use Rattle.std.specs.Prelude.{◌≡◌, ◌↔◌, ◌<◌, ℤ, pos, ◌≤ℤ◌, ◌<ℤ◌, Bool, true, false, List, length, Some, slice_get}
use Rattle.itv_base.specs.declared.names.EventId.{EventId}
use Rattle.event_graph.specs.Bounds.{IsGreatest, IsInconsistent, IsRay, IsUnbounded}
use Rattle.event_graph.specs.Network.{IsNet, Net}
use Rattle.event_graph.specs.Satisfying.{Satisfies}
use Rattle.event_graph.specs.Times.{separation, time_of}
use Rattle.falling.specs.declared.line.FallLine.{FallLine}
use Rattle.falling.specs.declared.fault.FallCheckFault.{FallCheckFault}
use Rattle.falling.specs.Cap.{enough_turns, far_line, widest_end}
use Rattle.falling.specs.Checking.{IsFallCheckFault}
use Rattle.falling.specs.Derivation.{IsLineAllowed, IsDerivation, IsEnded, IsFixedPoint}
use Rattle.falling.specs.Gaps.{HasNearSource, HasWithinCap, IsGapBeyond, with_gap}
use Rattle.falling.specs.Kinds.{IsPlain, negated, negated_times}
use Rattle.falling.specs.Rays.{IsApartBy}

-- a gap greater than the widest end can be made any number that is at least the widest end, and the times still satisfy
abbrev pub GapCanBeSet : Type 0
GapCanBeSet = (net : Net) (times : List ℤ) (lower upper gap : ℤ) → IsNet net → Satisfies times net → IsGapBeyond (widest_end net) times lower upper
    → pos (widest_end net) ≤ℤ gap → Satisfies (with_gap times lower upper gap) net

-- where satisfying times have a separation, some times within the cap have it too, or have a separation of at least the far line
abbrev pub SeparationWithinCap : Type 0
SeparationWithinCap = (net : Net) (from to : EventId) (times : List ℤ) → IsNet net → from.0 < net.events → to.0 < net.events → Satisfies times net
    → HasWithinCap net from to (separation times from to)

-- where times satisfy, some times within the cap are not below minus the far line
abbrev pub TimesNearSource : Type 0
TimesNearSource = (net : Net) (from : EventId) (times : List ℤ) → IsNet net → from.0 < net.events → Satisfies times net → HasNearSource net from

-- a value of a derivation that is below the far line is at least every satisfying separation
abbrev pub DerivationBounds : Type 0
DerivationBounds = (net : Net) (from to : EventId) (lines : List FallLine) (values times : List ℤ) → IsNet net → from.0 < net.events → to.0 < net.events
    → IsDerivation net from lines values → time_of values to <ℤ pos (far_line net) → Satisfies times net → separation times from to ≤ℤ time_of values to

-- a derivation that ends shows that no times satisfy
abbrev pub EndedIsInconsistent : Type 0
EndedIsInconsistent = (net : Net) (from : EventId) (lines : List FallLine) (values : List ℤ) → IsNet net → from.0 < net.events
    → IsDerivation net from lines values → IsEnded net from values → IsInconsistent net

-- values of a plain network that no line lowers satisfy it
abbrev pub SettledSatisfies : Type 0
SettledSatisfies = (net : Net) (values : List ℤ) → IsNet net → IsPlain net → length values ≡ net.events → IsFixedPoint net values → Satisfies values net

-- settled values of a derivation that has not ended satisfy with the source at 0, and a value below the far line is the greatest separation
abbrev pub SettledCloses : Type 0
SettledCloses = (net : Net) (from to : EventId) (lines : List FallLine) (values : List ℤ) → IsNet net → IsPlain net → from.0 < net.events → to.0 < net.events
    → IsDerivation net from lines values → (IsEnded net from values → ⊥) → IsFixedPoint net values
    → Satisfies values net × (time_of values from ≡ pos 0) × (time_of values to <ℤ pos (far_line net) → IsGreatest net from to (time_of values to))

-- a set of events that comes later than the others by more than the widest end can be raised without end
abbrev pub GapIsRay : Type 0
GapIsRay = (net : Net) (from to : EventId) (set : List Bool) (times : List ℤ) → IsNet net → Satisfies times net → length set ≡ net.events
    → slice_get set to.0 ≡ Some true → slice_get set from.0 ≡ Some false → IsApartBy (widest_end net) set times → IsRay net from to times set

-- a derivation that has not ended has fewer lines than are enough
abbrev pub NotEndedIsShort : Type 0
NotEndedIsShort = (net : Net) (from : EventId) (lines : List FallLine) (values : List ℤ) → IsNet net → from.0 < net.events → IsDerivation net from lines values
    → (IsEnded net from values → ⊥) → length lines < enough_turns net

-- times satisfy a network if and only if the negated times satisfy the negated network
abbrev pub NegationKeepsSatisfying : Type 0
NegationKeepsSatisfying = (net : Net) (times : List ℤ) → IsNet net → (Satisfies times net ↔ Satisfies (negated_times times) (negated net))

-- the greatest separation of a pair is the greatest separation of the reversed pair in the negated network
abbrev pub NegationReversesGreatest : Type 0
NegationReversesGreatest = (net : Net) (from to : EventId) (value : ℤ) → IsNet net → (IsGreatest net from to value ↔ IsGreatest (negated net) to from value)

-- a pair is unbounded if and only if the reversed pair is unbounded in the negated network
abbrev pub NegationReversesUnbounded : Type 0
NegationReversesUnbounded = (net : Net) (from to : EventId) → IsNet net → (IsUnbounded net from to ↔ IsUnbounded (negated net) to from)

-- a line with a fault is not allowed
abbrev pub FaultForbids : Type 0
FaultForbids = (net : Net) (values : List ℤ) (line : FallLine) (fault : FallCheckFault) → IsFallCheckFault net values line fault → IsLineAllowed net values line → ⊥
