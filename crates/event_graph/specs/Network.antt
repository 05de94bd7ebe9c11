-- Networks of timing constraints.
use Rattle.std.specs.Prelude.{◌≡◌, ◌<◌, ◌≤◌, ℕ, List, [], ◌∷◌, ◌++◌, length, All, Option, Some, None, option_and_then, slice_get, set, count_by, nat_lt}
use Rattle.itv_base.specs.Range.{Ends, IsEnd}
use Rattle.itv_base.specs.declared.names.EventId.{EventId}
use Rattle.itv_base.specs.declared.names.RuleKind.{RuleKind}
use Rattle.itv_base.specs.declared.names.RuleKind.TheVariants.{Lin, Late, Early}
use Rattle.itv_base.specs.declared.limits.TheConstants.{MAX_CAUSES, MAX_CONSTRAINTS, MAX_EVENTS}
use Rattle.event_graph.specs.declared.cause.Cause.{Cause}
use Rattle.event_graph.specs.declared.push_fault.PushFault.{PushFault}
use Rattle.event_graph.specs.declared.push_fault.PushFault.TheVariants.{Full, NoMemory}

-- a constraint on the time of a target by its causes
pub record Constraint : Type 0 where
  pub kind : RuleKind
  pub target : EventId
  pub causes : List Cause

-- the separation of two events lies in a range: the from-event is the one cause
abbrev pub linear : EventId → EventId → Ends → Constraint
linear from to range = record { kind = Lin; target = to; causes = (record { event = from; range = range }) ∷ [] }

-- the target comes at the latest of the causes, each delayed within its range
abbrev pub latest : EventId → List Cause → Constraint
latest target causes = record { kind = Late; target = target; causes = causes }

-- the target comes at the earliest of the causes, each delayed within its range
abbrev pub earliest : EventId → List Cause → Constraint
earliest target causes = record { kind = Early; target = target; causes = causes }

-- a number of events, and the constraints in their order
pub record Net : Type 0 where
  pub events : ℕ
  pub constraints : List Constraint

-- the cause with a number, of the constraint with a number, if both are there
abbrev pub cause_at : Net → ℕ → ℕ → Option Cause
cause_at net constraint cause = option_and_then (λ (c : Constraint). slice_get c.causes cause) (slice_get net.constraints constraint)

-- how many causes a constraint of a kind may have
abbrev pub IsCauseCount : RuleKind → ℕ → Type 0
IsCauseCount Lin count = count ≡ 1
IsCauseCount Late count = (1 ≤ count) × (count ≤ MAX_CAUSES)
IsCauseCount Early count = (1 ≤ count) × (count ≤ MAX_CAUSES)

-- a constraint between events with numbers below `events`, with as many causes as its kind may have
pub record IsConstraint (events : ℕ) (c : Constraint) : Type 0 where
  pub target : c.target.0 < events
  pub causes : All (λ (cause : Cause). cause.event.0 < events) c.causes
  pub count : IsCauseCount c.kind (length c.causes)

-- the finite ends of a range are within the limit
abbrev pub AreEnds : Ends → Type 0
AreEnds range = IsEnd range.low × IsEnd range.high

-- the finite ends of the ranges of all causes are within the limit
abbrev pub HasEnds : Net → Type 0
HasEnds net = (constraint cause : ℕ) (c : Cause) → cause_at net constraint cause ≡ Some c → AreEnds c.range

-- a network within the limits, all of whose constraints are between its events
pub record IsNet (net : Net) : Type 0 where
  pub events : net.events ≤ MAX_EVENTS
  pub constraints : All (IsConstraint net.events) net.constraints
  pub count : length net.constraints ≤ MAX_CONSTRAINTS
  pub ends : HasEnds net

-- how many causes of a constraint are named, for a kind and a number of causes; a linear constraint has none to name
abbrev pub named_causes : RuleKind → ℕ → ℕ
named_causes Lin count = 0
named_causes Late count = count
named_causes Early count = count

abbrev pub cause_count_of : Constraint → ℕ
cause_count_of c = named_causes c.kind (length c.causes)

-- how many constraints have two or more causes to choose from
abbrev pub splittable_count : Net → ℕ
splittable_count net = count_by (λ (c : Constraint). nat_lt 1 (cause_count_of c)) net.constraints

-- each constraint has a single cause, so there is nothing to choose
abbrev pub HasNoChoices : Net → Type 0
HasNoChoices net = All (λ (c : Constraint). length c.causes ≡ 1) net.constraints

-- the network with one more constraint
abbrev pub with_constraint : Net → Constraint → Net
with_constraint net c = record net { constraints = net.constraints ++ c ∷ [] }

-- why a constraint was not added, for the number of constraints that are there: the network is full, or it has room and memory ran out
abbrev pub IsPushFault : ℕ → PushFault → Type 0
IsPushFault count (Full n) = (n ≡ count) × (count ≡ MAX_CONSTRAINTS)
IsPushFault count NoMemory = count < MAX_CONSTRAINTS

-- ---- another range for one cause

-- the causes with another range for the cause with a number, if it is there
abbrev pub causes_with : List Cause → ℕ → Ends → Option Cause → List Cause
causes_with causes number range None = causes
causes_with causes number range (Some cause) = set causes number (record cause { range = range })

-- the constraints with another range for a cause of the constraint with a number, if both are there
abbrev pub constraints_with : List Constraint → ℕ → ℕ → Ends → Option Constraint → List Constraint
constraints_with constraints number cause range None = constraints
constraints_with constraints number cause range (Some c) =
    set constraints number (record c { causes = causes_with c.causes cause range (slice_get c.causes cause) })

-- the network with another range for one cause of one constraint; it is unchanged if that cause is not there
abbrev pub with_range : Net → ℕ → ℕ → Ends → Net
with_range net constraint cause range =
    record net { constraints = constraints_with net.constraints constraint cause range (slice_get net.constraints constraint) }
