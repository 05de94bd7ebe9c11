-- Constraints that hold however far the events of a set are raised.
use Rattle.std.specs.Prelude.{ℤ, Bool, false, IsTrue, List, All, Any, IsSome, slice_index_or}
use Rattle.itv_base.specs.declared.names.EventId.{EventId}
use Rattle.itv_base.specs.declared.names.RuleKind.{RuleKind}
use Rattle.itv_base.specs.declared.names.RuleKind.TheVariants.{Lin, Late, Early}
use Rattle.event_graph.specs.declared.cause.Cause.{Cause}
use Rattle.event_graph.specs.Network.{Constraint}
use Rattle.event_graph.specs.Satisfying.{IsAfter, IsBefore}

-- the set holds the event
abbrev pub is_in : List Bool → EventId → Bool
is_in set event = slice_index_or set event.0 false

-- the target comes no earlier than the cause and its low end, and is raised with the cause
abbrev pub StaysAfter : List ℤ → List Bool → EventId → Cause → Type 0
StaysAfter times set target c = IsAfter times target c × (IsSome c.range.low → IsTrue (is_in set c.event) → IsTrue (is_in set target))

-- the target comes no later than the cause and its high end, and the cause is raised with it
abbrev pub StaysBefore : List ℤ → List Bool → EventId → Cause → Type 0
StaysBefore times set target c = IsBefore times target c × (IsSome c.range.high → IsTrue (is_in set target) → IsTrue (is_in set c.event))

-- what a kind of constraint asks of its target and causes
abbrev pub StaysAs : RuleKind → List ℤ → List Bool → EventId → List Cause → Type 0
StaysAs Lin times set target causes = All (StaysAfter times set target) causes × All (StaysBefore times set target) causes
StaysAs Late times set target causes = All (StaysAfter times set target) causes × Any (StaysBefore times set target) causes
StaysAs Early times set target causes = All (StaysBefore times set target) causes × Any (StaysAfter times set target) causes

-- the times meet the constraint however far the events of the set are raised
abbrev pub Stays : List ℤ → List Bool → Constraint → Type 0
Stays times set c = StaysAs c.kind times set c.target c.causes
