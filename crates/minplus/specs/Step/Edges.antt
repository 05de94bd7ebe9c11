-- The always-edges of a network, put into a matrix one after another.
use Rattle.std.specs.Prelude.{◌≡◌, ◌<◌, ◌⊎◌, ℕ, ℤ, pos, ◌≤ℤ◌, List, [], Some, length, replicate, slice_index_or, slice_set}
use Rattle.itv_base.specs.Range.{IsEnd}
use Rattle.itv_base.specs.declared.limits.TheConstants.{END_LIMIT}
use Rattle.itv_base.specs.declared.names.EdgeName.{EdgeName}
use Rattle.itv_base.specs.declared.names.Side.{Side}
use Rattle.event_graph.specs.declared.edge.Edge.{Edge}
use Rattle.event_graph.specs.Edges.{IsAlways, edge}
use Rattle.event_graph.specs.Network.{Net}
use Rattle.minplus.specs.Matrix.{IsSquare, cells}
use Rattle.minplus.specs.Rows.{IsEntry}
use Rattle.minplus.specs.declared.rows.TheConstants.{ABSENT}
use Rattle.minplus.specs.Step.Entries.{BoundsAlways, Entries, IsEdgeHeld}
use Rattle.minplus.specs.Step.Paths.{AreSteps}

-- the always-edge with this name: its ends are events of the network, and its weight is an end of a range
pub record IsAlwaysEdge (net : Net) (name : EdgeName) (e : Edge) : Type 0 where
  pub always : IsAlways net name
  pub is : edge net name ≡ Some e
  pub from : e.from.0 < net.events
  pub to : e.to.0 < net.events
  pub within : IsEnd (Some e.weight)

-- the entry from the edge's from-event to its to-event fell to the edge's weight, if the weight is less. No other entry changed
pub record Lowers (e : Edge) (old new : Entries) : Type 0 where
  pub falls : (from to : ℕ) → new from to ≤ℤ old from to
  pub met : new e.from.0 e.to.0 ≤ℤ e.weight
  pub made : (from to : ℕ) → (new from to ≡ old from to) ⊎ ((from ≡ e.from.0) × (to ≡ e.to.0) × (new from to ≡ e.weight))

-- a matrix into which always-edges are put: each entry is absent or within the end limit, each bounds its separations, and no entry of the diagonal is
-- above 0
pub record BoundSeparations (net : Net) (rows : List (List ℤ)) : Type 0 where
  pub square : IsSquare net.events rows
  pub held : (from to : ℕ) → IsEntry (cells rows from to)
  pub small : AreSteps END_LIMIT (cells rows)
  pub diagonal : (at : ℕ) → at < net.events → cells rows at at ≤ℤ pos 0
  pub bounds : BoundsAlways net (cells rows)

-- the edge with this name is held, if it is an always-edge
abbrev pub HoldsEdge : Net → Entries → EdgeName → Type 0
HoldsEdge net entries name = (e : Edge) → IsAlways net name → edge net name ≡ Some e → IsEdgeHeld net.events entries e

-- the always-edges of a cause of a constraint are held, on both sides
abbrev pub HoldsCause : Net → Entries → ℕ → ℕ → Type 0
HoldsCause net entries constraint cause = (side : Side) → HoldsEdge net entries (record { constraint = constraint; cause = cause; side = side })

-- no entry rose. So an edge that was held is still held
abbrev pub NoneRose : Entries → Entries → Type 0
NoneRose old new = (from to : ℕ) → new from to ≤ℤ old from to

-- `count` rows of no edges: 0 from an event to itself, and all other entries absent
pub record AreEmptyRows (events count : ℕ) (rows : List (List ℤ)) : Type 0 where
  pub count_is : length rows ≡ count
  pub each : (own : ℕ) → own < count → slice_index_or rows own [] ≡ slice_set (replicate events ABSENT) own (pos 0)
