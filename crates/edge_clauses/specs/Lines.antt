-- Proofs line by line: bounds of times from both sides, edges that are known, and clauses that are kept.
use Rattle.std.specs.Prelude.{◌≡◌, ◌⊎◌, ◌+◌, ℕ, ℤ, pos, neg_ℤ, ◌+ℤ◌, ◌-ℤ◌, ◌≤ℤ◌, ◌<ℤ◌, List, [], ◌∷◌, ◌++◌, map, replicate, set, All, Any, Contains, Option, Some, None, IsSomeAnd, slice_get}
use Rattle.itv_base.specs.declared.names.EventId.{EventId}
use Rattle.event_graph.specs.declared.edge.Edge.{Edge}
use Rattle.event_graph.specs.Network.{Net}
use Rattle.event_graph.specs.Times.{time_of}
use Rattle.falling.specs.Cap.{cap}
use Rattle.falling.specs.Derivation.{starting_values}
use Rattle.edge_clauses.specs.declared.basis.Basis.{Basis}
use Rattle.edge_clauses.specs.declared.basis.WalkStep.{WalkStep}
use Rattle.edge_clauses.specs.declared.walk.Walk.{Walk}
use Rattle.edge_clauses.specs.Clauses.{Clause, IsAddable, IsClause, IsNearClause, unmet}

-- what a proof is to show: no satisfying times have a separation of the pair above the claim
pub record Goal : Type 0 where
  pub from : EventId
  pub to : EventId
  pub claim : ℤ

-- the goal with another claim
abbrev pub claiming : Goal → ℤ → Goal
claiming goal claim = record { from = goal.from; to = goal.to; claim = claim }

-- a line: the upper bound of an event falls, or its lower bound rises; an edge becomes known; a loop back from an event is kept as this clause; a block
-- opens that assumes edges, in place of an open block; or the open block closes
pub data ClauseLine : Type 0 where
  Fall : EventId → ℤ → Basis → ClauseLine
  Rise : EventId → ℤ → Basis → ClauseLine
  Know : Edge → Basis → ClauseLine
  Loop : EventId → List WalkStep → Clause → ClauseLine
  Assume : List Edge → ClauseLine
  Close : ClauseLine

-- bounds of the time of each event, in picoseconds after the from-event, and edges that are met
pub record Frame : Type 0 where
  pub up : List ℤ
  pub low : List ℤ
  pub known : List Edge

-- the edges that a block assumes, and the frame under these assumptions
pub record Block : Type 0 where
  pub assumed : List Edge
  pub frame : Frame

-- the frame outside of blocks, the clauses that were kept, and the open block, if there is one
pub record State : Type 0 where
  pub frame : Frame
  pub kept : List Clause
  pub block : Option Block

-- no event comes more than the cap before the from-event, which is at 0
abbrev pub starting_lows : Net → EventId → List ℤ
starting_lows net from = set (replicate net.events (neg_ℤ (pos (cap net)))) from.0 (pos 0)

-- the state before the first line
abbrev pub starting : Net → EventId → State
starting net from = record { frame = record { up = starting_values net from; low = starting_lows net from; known = [] }; kept = []; block = None }

-- the frame that lines read and change: the frame of the open block, or the frame outside of blocks if no block is open
abbrev pub frame_in : Frame → Option Block → Frame
frame_in frame None = frame
frame_in frame (Some block) = block.frame

abbrev pub frame_of : State → Frame
frame_of state = frame_in state.frame state.block

-- the state with this frame in place of the frame that lines change
abbrev pub with_frame_in : State → Option Block → Frame → State
with_frame_in state None frame = record { frame = frame; kept = state.kept; block = None }
with_frame_in state (Some block) frame = record { frame = state.frame; kept = state.kept; block = Some (record { assumed = block.assumed; frame = frame }) }

abbrev pub with_frame : State → Frame → State
with_frame state frame = with_frame_in state state.block frame

-- ---- edges in a frame

-- an event comes no earlier than at this time: by its lower bound, or since the goal is about separations above its claim
abbrev pub IsLow : Goal → Frame → EventId → ℤ → Type 0
IsLow goal frame event time = (time ≤ℤ time_of frame.low event) ⊎ ((event ≡ goal.to) × (time ≤ℤ (goal.claim +ℤ pos 1)))

-- times that meet the known edge do not meet the other
pub record Excludes (e known : Edge) : Type 0 where
  pub from : known.from ≡ e.to
  pub to : known.to ≡ e.from
  pub weight : known.weight ≤ℤ (neg_ℤ e.weight -ℤ pos 1)

-- an edge is not met: by the bounds of its events, since it leads from an event to itself with a weight below 0, or since a known edge excludes it
abbrev pub IsEdgeRefuted : Goal → Frame → Edge → Type 0
IsEdgeRefuted goal frame e =
    IsLow goal frame e.to ((time_of frame.up e.from +ℤ e.weight) +ℤ pos 1) ⊎ ((e.from ≡ e.to) × (e.weight <ℤ pos 0)) ⊎ Any (Excludes e) frame.known

-- the edge gives the event an upper bound of at most this
abbrev pub GivesMost : Frame → EventId → ℤ → Edge → Type 0
GivesMost frame event value e = (e.to ≡ event) × ((time_of frame.up e.from +ℤ e.weight) ≤ℤ value)

-- the edge gives the event a lower bound of at least this
abbrev pub GivesLeast : Goal → Frame → EventId → ℤ → Edge → Type 0
GivesLeast goal frame event value e = (e.from ≡ event) × IsLow goal frame e.to (value +ℤ e.weight)

-- no bound of an event is beyond one more than the cap
abbrev pub IsNearBound : Net → ℤ → Type 0
IsNearBound net value = (neg_ℤ (pos (cap net + 1)) ≤ℤ value) × (value ≤ℤ pos (cap net + 1))

-- a clause allows the upper bound of an event to fall to a value
pub record LetsFall (net : Net) (goal : Goal) (frame : Frame) (event : EventId) (value : ℤ) (c : Clause) : Type 0 where
  pub edges : All (λ (e : Edge). IsEdgeRefuted goal frame e ⊎ GivesMost frame event value e) c
  pub bound : IsNearBound net value
  pub lower : value <ℤ time_of frame.up event

-- a clause allows the lower bound of an event to rise to a value
pub record LetsRise (net : Net) (goal : Goal) (frame : Frame) (event : EventId) (value : ℤ) (c : Clause) : Type 0 where
  pub edges : All (λ (e : Edge). IsEdgeRefuted goal frame e ⊎ GivesLeast goal frame event value e) c
  pub bound : IsNearBound net value
  pub higher : time_of frame.low event <ℤ value

-- a clause makes an edge known: all its other edges are refuted
pub record Forces (goal : Goal) (frame : Frame) (e : Edge) (c : Clause) : Type 0 where
  pub among : Contains c e
  pub others : All (λ (other : Edge). (other ≡ e) ⊎ IsEdgeRefuted goal frame other) c

-- no times that the goal is about are within the bounds
abbrev pub IsEnded : Goal → Frame → Type 0
IsEnded goal frame = (event : EventId) × IsLow goal frame event (time_of frame.up event +ℤ pos 1)

-- ---- loops

-- if times meet this edge, they meet an edge of the clause that is to be kept: the edge itself, or one from its from-event to the event of the walk
abbrev pub IsCovered : EventId → Walk → Clause → Edge → Type 0
IsCovered event walk result e =
    Contains result e ⊎ ((e.to ≡ walk.at) × Any (λ (r : Edge). (r.from ≡ e.from) × (r.to ≡ event) × ((walk.sum +ℤ e.weight) ≤ℤ r.weight)) result)

-- a step leads back through an edge of its clause, and the other edges are covered
abbrev pub StepsTo : Net → List Clause → EventId → Clause → Walk → WalkStep → Walk → Type 0
StepsTo net kept event result walk step next =
    (c : Clause) × (e : Edge) × IsClause net kept step.basis c × (slice_get c step.through ≡ Some e) × (e.to ≡ walk.at)
    × ((k : ℕ) (other : Edge) → slice_get c k ≡ Some other → (k ≡ step.through) ⊎ IsCovered event walk result other)
    × (next ≡ record { at = e.from; sum = walk.sum +ℤ e.weight }) × IsAddable next.sum

-- steps lead from a walk to a walk
abbrev pub Walks : Net → List Clause → EventId → Clause → Walk → List WalkStep → Walk → Type 0
Walks net kept event result walk [] after = walk ≡ after
Walks net kept event result walk (step ∷ steps) after =
    (next : Walk) × StepsTo net kept event result walk step next × Walks net kept event result next steps after

-- the walk comes back to its event with a sum below 0. So an edge of the clause is met
pub record IsClauseLoop (net : Net) (kept : List Clause) (event : EventId) (steps : List WalkStep) (result : Clause) : Type 0 where
  pub sum : ℤ
  pub walks : Walks net kept event result (record { at = event; sum = pos 0 }) steps (record { at = event; sum = sum })
  pub below : sum <ℤ pos 0
  pub near : IsNearClause result

-- ---- lines

-- the clause that says that the edges are not all met
abbrev pub refuting : List Edge → Clause
refuting assumed = map unmet assumed

-- the frame with an upper bound, a lower bound or a known edge more
abbrev pub with_up : Frame → EventId → ℤ → Frame
with_up frame event value = record { up = set frame.up event.0 value; low = frame.low; known = frame.known }

abbrev pub with_low : Frame → EventId → ℤ → Frame
with_low frame event value = record { up = frame.up; low = set frame.low event.0 value; known = frame.known }

abbrev pub with_known : Frame → List Edge → Frame
with_known frame edges = record { up = frame.up; low = frame.low; known = frame.known ++ edges }

-- a line leads from a state to a state
abbrev pub IsLine : Net → Goal → State → ClauseLine → State → Type 0
IsLine net goal state (Fall event value basis) next =
    ((c : Clause) × IsClause net state.kept basis c × LetsFall net goal (frame_of state) event value c)
    × (next ≡ with_frame state (with_up (frame_of state) event value))
IsLine net goal state (Rise event value basis) next =
    ((c : Clause) × IsClause net state.kept basis c × LetsRise net goal (frame_of state) event value c)
    × (next ≡ with_frame state (with_low (frame_of state) event value))
IsLine net goal state (Know e basis) next =
    ((c : Clause) × IsClause net state.kept basis c × Forces goal (frame_of state) e c)
    × (next ≡ with_frame state (with_known (frame_of state) (e ∷ [])))
IsLine net goal state (Loop event steps result) next =
    IsClauseLoop net state.kept event steps result
    × (next ≡ record { frame = state.frame; kept = state.kept ++ result ∷ []; block = state.block })
IsLine net goal state (Assume edges) next =
    IsNearClause edges × IsNearClause (refuting edges)
    × (next ≡ record { frame = state.frame; kept = state.kept; block = Some (record { assumed = edges; frame = with_known state.frame edges }) })
IsLine net goal state Close next =
    IsSomeAnd state.block (λ (block : Block). IsEnded goal block.frame
    × (next ≡ record { frame = state.frame; kept = state.kept ++ refuting block.assumed ∷ []; block = None }))

-- lines lead from a state to a state
abbrev pub ProofLeads : Net → Goal → State → List ClauseLine → State → Type 0
ProofLeads net goal state [] after = state ≡ after
ProofLeads net goal state (line ∷ lines) after = (next : State) × IsLine net goal state line next × ProofLeads net goal next lines after

-- no block is open, and no times that the goal is about are left
pub record IsOver (goal : Goal) (state : State) : Type 0 where
  pub closed : state.block ≡ None
  pub ended : IsEnded goal state.frame

-- the lines are a proof of the goal
abbrev pub IsClauseProof : Net → Goal → List ClauseLine → Type 0
IsClauseProof net goal lines = (after : State) × ProofLeads net goal (starting net goal.from) lines after × IsOver goal after
