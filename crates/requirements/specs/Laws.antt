-- What verdicts say of all times that satisfy a network.
use Rattle.std.specs.Prelude.{◌≡◌, ◌↔◌, ℤ, ◌+ℤ◌, ◌-ℤ◌, ◌<ℤ◌, ◌⊎◌, List, Some, IsSome, IsSomeAnd}
use Rattle.itv_base.specs.Range.{Allows, Ends}
use Rattle.itv_base.specs.declared.names.EventId.{EventId}
use Rattle.event_graph.specs.Times.{separation}
use Rattle.event_graph.specs.Network.{Net}
use Rattle.event_graph.specs.Satisfying.{Satisfies}
use Rattle.event_graph.specs.Bounds.{IsGreatest, IsLeast}
use Rattle.requirements.specs.declared.bound.Bound.{Bound}
use Rattle.requirements.specs.declared.bound.Bound.TheVariants.{Closed, Unbounded, Within}
use Rattle.requirements.specs.declared.verdict.Verdict.TheVariants.{Pass, FailHigh, FailLow, Undecided}
use Rattle.requirements.specs.Bounds.{IsGreatestBound, IsLeastBound, reversed}
use Rattle.requirements.specs.Slacks.{slack_of}
use Rattle.requirements.specs.Verdicts.{verdict_of}

-- a requirement is met if every satisfying separation lies in the range
abbrev pub IsMet : Net → EventId → EventId → Ends → Type 0
IsMet net from to range = (times : List ℤ) → Satisfies times net → Allows range (separation times from to)

-- a requirement is broken on the high side if some satisfying separation is past the high end
abbrev pub IsBrokenHigh : Net → EventId → EventId → Ends → Type 0
IsBrokenHigh net from to range = (times : List ℤ) × Satisfies times net × IsSomeAnd range.high (λ high. high <ℤ separation times from to)

-- a requirement is broken on the low side if some satisfying separation is past the low end
abbrev pub IsBrokenLow : Net → EventId → EventId → Ends → Type 0
IsBrokenLow net from to range = (times : List ℤ) × Satisfies times net × IsSomeAnd range.low (λ low. separation times from to <ℤ low)

-- the two bounds of a pair are right
pub record AreBounds (net : Net) (from to : EventId) (least greatest : Bound) : Type 0 where
  pub is_least : IsLeastBound net from to least
  pub is_greatest : IsGreatestBound net from to greatest

-- if a requirement passes according to right bounds, it is met
abbrev pub PassIsMet : Type 0
PassIsMet = (net : Net) (from to : EventId) (range : Ends) (least greatest : Bound) → AreBounds net from to least greatest
    → verdict_of range least greatest ≡ Pass → IsMet net from to range

-- if a requirement fails on the high side according to right bounds, it is broken there
abbrev pub FailHighIsBroken : Type 0
FailHighIsBroken = (net : Net) (from to : EventId) (range : Ends) (least greatest : Bound) → AreBounds net from to least greatest
    → verdict_of range least greatest ≡ FailHigh → IsBrokenHigh net from to range

-- if a requirement fails on the low side according to right bounds, it is broken there
abbrev pub FailLowIsBroken : Type 0
FailLowIsBroken = (net : Net) (from to : EventId) (range : Ends) (least greatest : Bound) → AreBounds net from to least greatest
    → verdict_of range least greatest ≡ FailLow → IsBrokenLow net from to range

-- the search left the bound open
abbrev pub IsWithin : Bound → Type 0
IsWithin (Closed value) = ⊥
IsWithin Unbounded = ⊥
IsWithin (Within limit attained) = Unit {0}

-- a verdict is undecided only if the search left one of the bounds open
abbrev pub UndecidedIsWithin : Type 0
UndecidedIsWithin = (range : Ends) (least greatest : Bound) → verdict_of range least greatest ≡ Undecided → IsWithin least ⊎ IsWithin greatest

-- the sum of the low end and the low slack is the least separation, if the bound is right
abbrev pub LowSlackIsDistance : Type 0
LowSlackIsDistance = (net : Net) (from to : EventId) (range : Ends) (least greatest : Bound) (slack : ℤ) → IsLeastBound net from to least
    → (slack_of range least greatest).low ≡ Some slack → IsSomeAnd range.low (λ low. IsLeast net from to (low +ℤ slack))

-- the high end less the high slack is the greatest separation, if the bound is right
abbrev pub HighSlackIsDistance : Type 0
HighSlackIsDistance = (net : Net) (from to : EventId) (range : Ends) (least greatest : Bound) (slack : ℤ) → IsGreatestBound net from to greatest
    → (slack_of range least greatest).high ≡ Some slack → IsSomeAnd range.high (λ high. IsGreatest net from to (high -ℤ slack))

-- an end that is not open has a slack if its bound is closed
abbrev pub ClosedLowHasSlack : Type 0
ClosedLowHasSlack = (range : Ends) (value : ℤ) (greatest : Bound) → IsSome range.low → IsSome (slack_of range (Closed value) greatest).low

abbrev pub ClosedHighHasSlack : Type 0
ClosedHighHasSlack = (range : Ends) (least : Bound) (value : ℤ) → IsSome range.high → IsSome (slack_of range least (Closed value)).high

-- a bound is the greatest of a pair if and only if, with its numbers negated, it is the least of the reversed pair
abbrev pub ReversedGreatestIsLeast : Type 0
ReversedGreatestIsLeast = (net : Net) (from to : EventId) (value : Bound) → (IsGreatestBound net to from value ↔ IsLeastBound net from to (reversed value))
