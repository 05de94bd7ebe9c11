-- What a fall of labels does, over the edges of a scope.
use Rattle.std.specs.Prelude.{◌≡◌, ◌+◌, ◌*◌, ◌<◌, ◌≤◌, ℕ, ℤ, pos, negsuc, ◌+ℤ◌, ◌≤ℤ◌, ◌⊎◌, Bool, true, List, length, cond, Option, Some, None, sum_by}
use Rattle.itv_base.specs.declared.limits.TheConstants.{MAX_EVENTS}
use Rattle.itv_base.specs.declared.names.EdgeName.{EdgeName}
use Rattle.itv_base.specs.declared.names.EventId.{EventId}
use Rattle.event_graph.specs.declared.edge.Edge.{Edge}
use Rattle.event_graph.specs.Network.{IsNet, Net}
use Rattle.trail.specs.declared.stamp.Stamp.{Stamp}
use Rattle.trail.specs.Stack.{TrailView, with_stamp}
use Rattle.diff_bounds.specs.declared.arc.Arc.{Arc}
use Rattle.diff_bounds.specs.declared.falling.Run.{Run}
use Rattle.diff_bounds.specs.declared.falling.Relaxation.{Relaxation}
use Rattle.diff_bounds.specs.declared.falling.Relaxation.TheVariants.{Kept, Fell, Stops}
use Rattle.diff_bounds.specs.Arcs.{IsArc}
use Rattle.diff_bounds.specs.Labels.{Follows, HasFallen, IsAmong, IsForest, GraphLabels, Parents, Scope, is_lower, labels_from, parents_from, stamp_at}
use Rattle.event_graph.specs.Limits.{weight_limit}
use Rattle.diff_bounds.specs.Step.Limits.{fall_limit}
use Rattle.diff_bounds.specs.Settled.{AreLabelsNear}
use Rattle.diff_bounds.specs.Step.Waiting.{PendingView, is_waiting}

abbrev pub scope_of : Net → TrailView → Run → Scope
scope_of net stack run = record { net = net; chosen = stack.current.edges; first = run.first }

-- the label at the start of an edge plus its weight is less than the label at its end, or the end has no label
pub record Undercuts (label : GraphLabels) (e : Edge) : Type 0 where
  pub near : ℤ
  pub start : label e.from.0 ≡ Some near
  pub lower : is_lower (Some (near +ℤ e.weight)) (label e.to.0) ≡ true

-- the stack with other stamps in its current graph
abbrev pub with_stamps : TrailView → List Stamp → TrailView
with_stamps stack stamps = record stack { current = record { edges = stack.current.edges; stamps = stamps } }

abbrev pub fallen_stamp : EdgeName → ℤ → Stamp
fallen_stamp name label = record { label = Some label; parent = Some name }

-- what relaxing an edge does
abbrev pub Relaxes : Run → Arc → TrailView → TrailView → Relaxation → Type 0
Relaxes run a old new Kept = (new ≡ old) × Follows (labels_from old.current.stamps run.base) a.edge
Relaxes run a old new (Fell by) =
    (u : Undercuts (labels_from old.current.stamps run.base) a.edge) × (run.stop ≡ Some a.edge.to → ⊥)
    × (new ≡ record old { current = with_stamp old.current (run.base + a.edge.to.0) (fallen_stamp a.name (u.near +ℤ a.edge.weight)) })
Relaxes run a old new Stops = (new ≡ old) × Undercuts (labels_from old.current.stamps run.base) a.edge × (run.stop ≡ Some a.edge.to)

-- numbers that meet all edges of a scope, except for the edges that leave the stop
abbrev pub IsPotential : Scope → Option EventId → (ℕ → ℤ) → Type 0
IsPotential s stop potential = (name : EdgeName) (e : Edge) → IsAmong s name e → (stop ≡ Some e.from → ⊥) → potential e.to.0 ≤ℤ (potential e.from.0 +ℤ e.weight)

-- no label is below 0 by more than the limit of weights times the number of events
abbrev pub AreAbove : ℕ → GraphLabels → Type 0
AreAbove events label = (event : ℕ) (number : ℤ) → event < events → label event ≡ Some number → pos 0 ≤ℤ (number +ℤ pos (weight_limit * events))

-- the parents of the labels that have fallen; other events have none
abbrev pub fresh : GraphLabels → GraphLabels → Parents → Parents
fresh old label parent event = cond (is_lower (label event) (old event)) (parent event) None

-- labels that have fallen from old ones by fresh parents; the label at the stop has not fallen
pub record RunHasFallen (s : Scope) (run : Run) (old new : List Stamp) : Type 0 where
  pub count : length new ≡ length old
  pub forest : IsForest s (labels_from old run.base) (labels_from new run.base) (fresh (labels_from old run.base) (labels_from new run.base) (parents_from new run.base))
  pub fallen : (slot : ℕ) → HasFallen (stamp_at old slot) (stamp_at new slot)
  pub before : (slot : ℕ) → slot < run.base → stamp_at new slot ≡ stamp_at old slot
  pub after : (slot : ℕ) → run.base + s.net.events ≤ slot → stamp_at new slot ≡ stamp_at old slot
  pub near : AreLabelsNear new
  pub stopped : (x : EventId) → run.stop ≡ Some x → labels_from new run.base x.0 ≡ labels_from old run.base x.0

-- labels of a run: the old ones are not far below 0, and a potential shows that each loop of negative sum goes through the stop
pub record IsRunning (s : Scope) (run : Run) (stamps : List Stamp) : Type 0 where
  pub old : List Stamp
  pub above : AreAbove s.net.events (labels_from old run.base)
  pub potential : ℕ → ℤ
  pub meets : IsPotential s run.stop potential
  pub ran : RunHasFallen s run old stamps

-- if a run led from any old labels to the middle ones, it leads from them to the new ones too
abbrev pub KeepsRuns : Scope → Run → List Stamp → List Stamp → Type 0
KeepsRuns s run mid new =
    (old : List Stamp) (potential : ℕ → ℤ) → AreAbove s.net.events (labels_from old run.base) → IsPotential s run.stop potential → RunHasFallen s run old mid → RunHasFallen s run old new

-- an edge is followed, or the event at its start waits
abbrev pub IsDone : Run → List Stamp → List Bool → Edge → Type 0
IsDone run stamps marks e = Follows (labels_from stamps run.base) e ⊎ (is_waiting marks e.from.0 ≡ true)

-- a number, or 0 for one below 0
abbrev pub natural_part : ℤ → ℕ
natural_part (pos n) = n
natural_part (negsuc n) = 0

-- a bound on how far a label can still fall; no label comes near the number that is added
abbrev pub height : Option ℤ → ℕ
height None = 2 * fall_limit
height (Some label) = natural_part (label +ℤ pos fall_limit)

abbrev pub total_height : List Stamp → ℕ
total_height stamps = sum_by (λ s. height s.label) stamps

-- the measure of the loop: how much work is left
abbrev pub work_left : List Stamp → ℕ → ℕ
work_left stamps count = 2 * total_height stamps + count

-- what a fall does to the stack and the queue
pub record RunsOn (s : Scope) (run : Run) (old new : TrailView) (waited waits : PendingView) : Type 0 where
  pub stack : new ≡ with_stamps old new.current.stamps
  pub count : length new.current.stamps ≡ length old.current.stamps
  pub keeps : KeepsRuns s run old.current.stamps new.current.stamps
  pub marks : length waits.marks ≡ length waited.marks

-- what a part of a fall does
pub record Falls (s : Scope) (run : Run) (old new : TrailView) (waited waits : PendingView) : Type 0 where
  pub stack : new ≡ with_stamps old new.current.stamps
  pub count : length new.current.stamps ≡ length old.current.stamps
  pub keeps : KeepsRuns s run old.current.stamps new.current.stamps
  pub marks : length waits.marks ≡ length waited.marks
  pub done : (e : Edge) → s.first ≤ e.from.0 → IsDone run old.current.stamps waited.marks e → IsDone run new.current.stamps waits.marks e
  pub work : work_left new.current.stamps waits.count ≤ work_left old.current.stamps waited.count

-- the slots of the run are in the stack, and there is a mark for each event
pub record IsPlaced (net : Net) (run : Run) (stack : TrailView) (waiting : PendingView) : Type 0 where
  pub is_net : IsNet net
  pub slots : run.base + net.events ≤ length stack.current.stamps
  pub halves : net.events + net.events ≤ length stack.current.stamps
  pub most : length stack.current.stamps ≤ 2 * MAX_EVENTS
  pub marks : length waiting.marks ≡ net.events

-- an edge closes a loop through the stop: it would lower the label there
pub record Closes (s : Scope) (run : Run) (stamps : List Stamp) (a : Arc) : Type 0 where
  pub among : IsAmong s a.name a.edge
  pub arc : IsArc s.net a
  pub undercuts : Undercuts (labels_from stamps run.base) a.edge
  pub to : run.stop ≡ Some a.edge.to

-- each edge of a scope is followed, or the event at its start waits
abbrev pub AllDone : Scope → Run → List Stamp → List Bool → Type 0
AllDone s run stamps marks = (name : EdgeName) (e : Edge) → IsAmong s name e → IsDone run stamps marks e

-- an edge, if it starts at an event, is of the scope
abbrev pub IsAmongFrom : Scope → ℕ → Arc → Type 0
IsAmongFrom s from a = a.edge.from.0 ≡ from → IsAmong s a.name a.edge

-- an edge, if it starts at an event, is done
abbrev pub IsDoneFrom : Run → ℕ → List Stamp → List Bool → Arc → Type 0
IsDoneFrom run from stamps marks a = a.edge.from.0 ≡ from → IsDone run stamps marks a.edge
