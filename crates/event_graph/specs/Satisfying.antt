-- Which times satisfy a network.
use Rattle.std.specs.Prelude.{◌≡◌, ◌≤◌, ℕ, ℤ, ◌+ℤ◌, ◌≤ℤ◌, List, length, All, Any, IfSome, IsSomeAnd, slice_get}
use Rattle.std.specs.List.{AllWithin}
use Rattle.itv_base.specs.declared.names.EventId.{EventId}
use Rattle.itv_base.specs.declared.names.RuleKind.{RuleKind}
use Rattle.itv_base.specs.declared.names.RuleKind.TheVariants.{Lin, Late, Early}
use Rattle.event_graph.specs.declared.cause.Cause.{Cause}
use Rattle.event_graph.specs.Network.{Constraint, Net}
use Rattle.event_graph.specs.Times.{time_of}

-- the target comes no earlier than the cause and its low end; an open end allows all
abbrev pub IsAfter : List ℤ → EventId → Cause → Type 0
IsAfter times target c = IfSome c.range.low (λ low. (time_of times c.event +ℤ low) ≤ℤ time_of times target)

-- the target comes no later than the cause and its high end; an open end allows all
abbrev pub IsBefore : List ℤ → EventId → Cause → Type 0
IsBefore times target c = IfSome c.range.high (λ high. time_of times target ≤ℤ (time_of times c.event +ℤ high))

-- what a kind of constraint asks of its target and causes
abbrev pub HoldsAs : RuleKind → List ℤ → EventId → List Cause → Type 0
HoldsAs Lin times target causes = All (IsAfter times target) causes × All (IsBefore times target) causes
HoldsAs Late times target causes = All (IsAfter times target) causes × Any (IsBefore times target) causes
HoldsAs Early times target causes = All (IsBefore times target) causes × Any (IsAfter times target) causes

abbrev pub Holds : List ℤ → Constraint → Type 0
Holds times c = HoldsAs c.kind times c.target c.causes

-- there are as many times as events, and each constraint holds
pub record Satisfies (times : List ℤ) (net : Net) : Type 0 where
  pub count : length times ≡ net.events
  pub each : All (Holds times) net.constraints

-- the times break the constraint with a number
abbrev pub Breaks : List ℤ → Net → ℕ → Type 0
Breaks times net number = IsSomeAnd (slice_get net.constraints number) (λ c. Holds times c → ⊥)

-- the number of the first constraint, from `start` on, that the times break
pub record IsFirstBroken (times : List ℤ) (net : Net) (start number : ℕ) : Type 0 where
  pub reached : start ≤ number
  pub broken : Breaks times net number
  pub earlier : AllWithin (Holds times) net.constraints start number
