-- The first fault of a line of a proof, and the cases that are open after a line.
use Rattle.std.specs.Prelude.{◌==◌, ◌+◌, ◌++◌, ◌||◌, ◌&&◌, ℕ, ℤ, pos, Bool, true, false, if◌then◌else◌, List, [], ◌∷◌, length, Option, Some, None, slice_get, nat_le, int_le, int_lt}
use Rattle.std.specs.Option.{option_or}
use Rattle.itv_base.specs.declared.names.EdgeName.{EdgeName}
use Rattle.itv_base.specs.declared.names.EventId.{EventId}
use Rattle.itv_base.specs.declared.names.RuleKind.{RuleKind}
use Rattle.itv_base.specs.declared.names.RuleKind.TheVariants.{Lin, Late, Early}
use Rattle.itv_base.specs.declared.names.Side.{Side}
use Rattle.itv_base.specs.declared.names.Side.TheVariants.{Lower, Upper}
use Rattle.event_graph.specs.declared.edge.Edge.{Edge}
use Rattle.event_graph.specs.Cases.{is_split}
use Rattle.event_graph.specs.Edges.{edge, holds_always}
use Rattle.event_graph.specs.Network.{Constraint, Net}
use Rattle.event_graph.specs.Proof.{Bound, Case, Loop, Nothing, Path, ProofGoal, ProofLine, Split, cases_of, path_sum}
use Rattle.cert_checker.specs.declared.check_fault.CheckFault.{CheckFault}
use Rattle.cert_checker.specs.declared.check_fault.CheckFault.TheVariants.{AfterEnd, AlreadySplit, BadEdge, Broken, NoSuchConstraint, NotChosen, NotNegative, PathHere, SumTooGreat, TooLong}

-- ---- what is asked of a constraint and of an edge, as tests

-- constraints of the kind have causes to choose from
abbrev pub has_choice : RuleKind → Bool
has_choice Lin = false
has_choice Late = true
has_choice Early = true

-- this cause of the constraint is chosen
abbrev pub is_chosen : Case → ℕ → ℕ → Bool
is_chosen [] number cause = false
is_chosen (choice ∷ above) number cause = ((choice.constraint == number) && (choice.cause == cause)) || is_chosen above number cause

-- the side is the choice side of constraints of this kind
abbrev pub is_choice_side : RuleKind → Side → Bool
is_choice_side Lin side = false
is_choice_side Late Lower = false
is_choice_side Late Upper = true
is_choice_side Early Lower = true
is_choice_side Early Upper = false

-- an edge that is there may be used: it is an always-edge, or on the choice side with its cause chosen
abbrev pub may_use : Case → EdgeName → Option Constraint → Bool
may_use chosen name None = false
may_use chosen name (Some c) =
    holds_always c.kind (length c.causes) name.side || (is_chosen chosen name.constraint name.cause && is_choice_side c.kind name.side)

abbrev pub is_usable : Net → Case → EdgeName → Bool
is_usable net chosen name = may_use chosen name (slice_get net.constraints name.constraint)

-- ---- the first fault

-- the fault of the edge at a place; the edge before it ends at an event
abbrev pub fault_of_edge : ℕ → EventId → Bool → Option Edge → Option CheckFault
fault_of_edge place at usable None = Some (BadEdge place)
fault_of_edge place at usable (Some e) = if usable then (if e.from.0 == at.0 then None else Some (Broken place)) else Some (NotChosen place)

-- the event where an edge ends
abbrev pub edge_end : Option Edge → EventId
edge_end None = record { 0 = 0 }
edge_end (Some e) = e.to

-- the event where an edge begins
abbrev pub begin_of : Option Edge → EventId
begin_of None = record { 0 = 0 }
begin_of (Some e) = e.from

-- the first fault of edges that are to lead from an event to an event; the first edge has a place
abbrev pub fault_of_walk : Net → Case → EventId → ℕ → EventId → List EdgeName → Option CheckFault
fault_of_walk net chosen to place at [] = if at.0 == to.0 then None else Some (Broken place)
fault_of_walk net chosen to place at (name ∷ names) =
    option_or (fault_of_edge place at (is_usable net chosen name) (edge net name))
    (fault_of_walk net chosen to (place + 1) (edge_end (edge net name)) names)

-- the fault of more edges than events
abbrev pub fault_of_length : Net → List EdgeName → Option CheckFault
fault_of_length net names = if nat_le (length names) net.events then None else Some (TooLong (length names))

-- the fault of a sum that is to be at most a value
abbrev pub fault_of_path_sum : ℤ → ℤ → Option CheckFault
fault_of_path_sum value sum = if int_le sum value then None else Some (SumTooGreat sum)

-- the fault of a sum that is to be negative
abbrev pub fault_of_loop_sum : ℤ → Option CheckFault
fault_of_loop_sum sum = if int_lt sum (pos 0) then None else Some (NotNegative sum)

-- where a loop begins: where its first edge begins
abbrev pub loop_begin : Net → List EdgeName → EventId
loop_begin net [] = record { 0 = 0 }
loop_begin net (name ∷ names) = begin_of (edge net name)

-- the first fault of a path in a case
abbrev pub fault_of_path : Net → ProofGoal → Case → List EdgeName → Option CheckFault
fault_of_path net Nothing chosen names = Some PathHere
fault_of_path net (Bound from to value) chosen names =
    option_or (fault_of_length net names) (option_or (fault_of_walk net chosen to 0 from names) (fault_of_path_sum value (path_sum net names)))

-- the first fault of a loop in a case
abbrev pub fault_of_loop : Net → Case → List EdgeName → Option CheckFault
fault_of_loop net chosen names =
    option_or (fault_of_length net names)
    (option_or (fault_of_walk net chosen (loop_begin net names) 0 (loop_begin net names) names) (fault_of_loop_sum (path_sum net names)))

-- the fault of a constraint that is to be split; a test says whether it is split above
abbrev pub fault_of_constraint : Option Constraint → Bool → Option CheckFault
fault_of_constraint None split = Some NoSuchConstraint
fault_of_constraint (Some c) split = if has_choice c.kind then (if split then Some AlreadySplit else None) else Some NoSuchConstraint

-- the fault of a split of a case
abbrev pub fault_of_split : Net → Case → ℕ → Option CheckFault
fault_of_split net chosen number = fault_of_constraint (slice_get net.constraints number) (is_split chosen number)

-- the first fault of a line, where these cases are open
abbrev pub fault_of_line : Net → ProofGoal → List Case → ProofLine → Option CheckFault
fault_of_line net goal [] line = Some AfterEnd
fault_of_line net goal (chosen ∷ cases) (Split number) = fault_of_split net chosen number
fault_of_line net goal (chosen ∷ cases) (Path names) = fault_of_path net goal chosen names
fault_of_line net goal (chosen ∷ cases) (Loop names) = fault_of_loop net chosen names

-- ---- the cases that are open after a line without a fault

abbrev pub behind_line : Net → List Case → ProofLine → List Case
behind_line net [] line = []
behind_line net (chosen ∷ cases) (Split number) = cases_of net chosen number ++ cases
behind_line net (chosen ∷ cases) (Path names) = cases
behind_line net (chosen ∷ cases) (Loop names) = cases
