-- Graphs whose labels have settled. The first half of the slots has the labels from the source, the second half the feasible times.
use Rattle.std.specs.Prelude.{◌≡◌, ◌+◌, ◌*◌, ◌<◌, ◌==◌, ℕ, ℤ, pos, ◌≤ℤ◌, ◌⊎◌, cond, List, [], ◌∷◌, ◌++◌, length, count_by, Option, Some, None, is_some}
use Rattle.itv_base.specs.declared.names.EdgeName.{EdgeName}
use Rattle.itv_base.specs.declared.names.EventId.{EventId}
use Rattle.event_graph.specs.Network.{Net}
use Rattle.trail.specs.declared.stamp.Stamp.{Stamp}
use Rattle.trail.specs.Stack.{Graph}
use Rattle.diff_bounds.specs.Labels.{HaveSettled, IsForest, GraphLabels, Scope, labels_from, parents_from, stamp_at}
use Rattle.event_graph.specs.Limits.{weight_limit}

-- the first labels for the feasible times: 0 at every event
abbrev pub zeros : GraphLabels
zeros event = Some (pos 0)

-- the first labels from a source: 0 at the source, and none elsewhere
abbrev pub at_source : EventId → GraphLabels
at_source source event = cond (event == source.0) (Some (pos 0)) None

-- labels that fell from first labels over the edges of a scope, and have settled
pub record HaveLabels (s : Scope) (start : GraphLabels) (stamps : List Stamp) (base : ℕ) : Type 0 where
  pub forest : IsForest s start (labels_from stamps base) (parents_from stamps base)
  pub settled : HaveSettled s (labels_from stamps base)

-- the second half of the slots has the feasible times, and no feasible time is above 0
pub record IsFeasible (s : Scope) (stamps : List Stamp) : Type 0 where
  pub slots : length stamps ≡ s.net.events + s.net.events
  pub labels : HaveLabels s zeros stamps s.net.events
  pub low : (event : ℕ) (label : ℤ) → event < s.net.events → labels_from stamps s.net.events event ≡ Some label → label ≤ℤ pos 0

-- the first half of the slots has the labels from a source; without a source it has no labels
abbrev pub HaveUppers : Scope → Option EventId → List Stamp → Type 0
HaveUppers s None stamps = (event : ℕ) → event < s.net.events → labels_from stamps 0 event ≡ None
HaveUppers s (Some source) stamps = (source.0 < s.net.events) × HaveLabels s (at_source source) stamps 0

-- no label is above the limit of weights times the number of labels
abbrev pub AreLabelsNear : List Stamp → Type 0
AreLabelsNear stamps = (slot : ℕ) (label : ℤ) → (stamp_at stamps slot).label ≡ Some label → label ≤ℤ pos (weight_limit * count_by (λ s. is_some s.label) stamps)

-- all labels of a graph have settled
pub record IsSettled (s : Scope) (source : Option EventId) (stamps : List Stamp) : Type 0 where
  pub feasible : IsFeasible s stamps
  pub near : AreLabelsNear stamps
  pub uppers : HaveUppers s source stamps

-- the scope in which all current edges count
abbrev pub whole : Net → List EdgeName → Scope
whole net chosen = record { net = net; chosen = chosen; first = 0 }

-- a level added one edge, or none
abbrev pub AddsOne : List EdgeName → List EdgeName → Type 0
AddsOne below edges = (edges ≡ below) ⊎ ((name : EdgeName) × (edges ≡ below ++ name ∷ []))

-- all graphs of a stack have settled; each has at most one edge more than the graph below it, and the first one has no chosen edge
abbrev pub AreSettled : Net → Option EventId → Graph → List Graph → Type 0
AreSettled net source g [] = IsSettled (whole net g.edges) source g.stamps × (g.edges ≡ [])
AreSettled net source g (h ∷ graphs) = IsSettled (whole net g.edges) source g.stamps × AddsOne h.edges g.edges × AreSettled net source h graphs

-- the first graph of a stack
abbrev pub bottom : Graph → List Graph → Graph
bottom g [] = g
bottom g (h ∷ graphs) = bottom h graphs

-- a first graph has no chosen edges, and its feasible times have settled
pub record IsRootGraph (net : Net) (g : Graph) : Type 0 where
  pub edges : g.edges ≡ []
  pub feasible : IsFeasible (whole net []) g.stamps
