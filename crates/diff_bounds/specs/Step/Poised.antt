-- What is known before and after labels fall over edges that start at one event.
use Rattle.std.specs.Prelude.{◌≡◌, ◌+◌, ◌<◌, ◌≤◌, ℕ, ℤ, pos, ◌≤ℤ◌, ◌⊎◌, List, [], length, Some, None}
use Rattle.itv_base.specs.declared.names.EdgeName.{EdgeName}
use Rattle.itv_base.specs.declared.names.EventId.{EventId}
use Rattle.event_graph.specs.declared.edge.Edge.{Edge}
use Rattle.event_graph.specs.Network.{IsNet, Net}
use Rattle.trail.specs.declared.stamp.Stamp.{Stamp}
use Rattle.trail.specs.Stack.{TrailView, empty_stamp}
use Rattle.diff_bounds.specs.declared.arc.Arc.{Arc}
use Rattle.diff_bounds.specs.declared.falling.Run.{Run}
use Rattle.diff_bounds.specs.Arcs.{AreAlwaysArcs, AreChosenArcs, IsArc}
use Rattle.diff_bounds.specs.Labels.{Follows, IsAmong, IsForest, GraphLabels, Scope, labels_from, parents_from, stamp_at}
use Rattle.diff_bounds.specs.Settled.{AreLabelsNear, IsRootGraph}
use Rattle.diff_bounds.specs.Step.Falling.{scope_of}
use Rattle.diff_bounds.specs.Step.Waiting.{PendingView}

abbrev pub scope_by : Net → List EdgeName → ℕ → Scope
scope_by net chosen first = record { net = net; chosen = chosen; first = first }

abbrev pub scope_from : Net → TrailView → ℕ → Scope
scope_from net stack first = scope_by net stack.current.edges first

-- the run over feasible times; the stop is the event where the new edges start
abbrev pub feasible_run : Net → EventId → ℕ → Run
feasible_run net from first = record { base = net.events; first = first; stop = Some from }

-- the run over labels from a source, over all edges
abbrev pub upper_run : Run
upper_run = record { base = 0; first = 0; stop = None }

-- the label 0, without a parent
abbrev pub zero_stamp : Stamp
zero_stamp = record { label = Some (pos 0); parent = None }

-- all edges of a scope are followed, except for the edges that start at an event
abbrev pub AreOthersFollowed : Scope → EventId → GraphLabels → Type 0
AreOthersFollowed s from label = (name : EdgeName) (e : Edge) → IsAmong s name e → (e.from.0 ≡ from.0) ⊎ Follows label e

-- labels that fell from first labels over edges of a scope; all edges are followed, except for the edges that start at one event
pub record IsPoised (s : Scope) (from : EventId) (start : GraphLabels) (stamps : List Stamp) (base : ℕ) : Type 0 where
  pub forest : IsForest s start (labels_from stamps base) (parents_from stamps base)
  pub others : AreOthersFollowed s from (labels_from stamps base)

-- the graph, its edges and the queue are there, and the labels of a run are poised
pub record IsRunReady (net : Net) (out : List (List Arc)) (arcs : List Arc) (run : Run) (from : EventId) (start : GraphLabels) (stack : TrailView) (waiting : PendingView) : Type 0 where
  pub is_net : IsNet net
  pub out_edges : AreAlwaysArcs net out
  pub chosen : AreChosenArcs net stack.current.edges arcs
  pub within : from.0 < net.events
  pub slots : length stack.current.stamps ≡ net.events + net.events
  pub near : AreLabelsNear stack.current.stamps
  pub marks : length waiting.marks ≡ net.events
  pub poised : IsPoised (scope_of net stack run) from start stack.current.stamps run.base

-- all edges of a scope are followed, except for one
abbrev pub AreRestFollowed : Scope → Edge → GraphLabels → Type 0
AreRestFollowed s added label = (name : EdgeName) (e : Edge) → IsAmong s name e → (e ≡ added) ⊎ Follows label e

-- labels are ready for a run over one added edge: all other edges are followed
pub record IsAdded (net : Net) (out : List (List Arc)) (arcs : List Arc) (run : Run) (a : Arc) (start : GraphLabels) (stack : TrailView) (waiting : PendingView) : Type 0 where
  pub ready : IsRunReady net out arcs run a.edge.from start stack waiting
  pub arc : IsArc net a
  pub among : IsAmong (scope_of net stack run) a.name a.edge
  pub rest : AreRestFollowed (scope_of net stack run) a.edge (labels_from stack.current.stamps run.base)

-- no feasible time is above 0
abbrev pub AreLow : ℕ → List Stamp → Type 0
AreLow events stamps = (event : ℕ) (label : ℤ) → event < events → labels_from stamps events event ≡ Some label → label ≤ℤ pos 0

-- the first half of the slots is empty, and the second half has 0 at each event
pub record HasBegun (events : ℕ) (stamps : List Stamp) : Type 0 where
  pub slots : length stamps ≡ events + events
  pub uppers : (slot : ℕ) → slot < events → stamp_at stamps slot ≡ empty_stamp
  pub feasible : (event : ℕ) → event < events → stamp_at stamps (events + event) ≡ zero_stamp

-- the first half of the slots is empty now, and all other slots are as they were
pub record HasCleared (events : ℕ) (old new : List Stamp) : Type 0 where
  pub count : length new ≡ length old
  pub uppers : (slot : ℕ) → slot < events → stamp_at new slot ≡ empty_stamp
  pub others : (slot : ℕ) → events ≤ slot → stamp_at new slot ≡ stamp_at old slot

-- the stack has one graph, which is a first graph
pub record IsFirstGraph (net : Net) (stack : TrailView) : Type 0 where
  pub below : stack.below ≡ []
  pub root : IsRootGraph net stack.current
