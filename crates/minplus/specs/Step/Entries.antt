-- The entries of a matrix that is improved through one event after another.
use Rattle.std.specs.Prelude.{◌≡◌, ◌<◌, ◌⊎◌, ℕ, ℤ, pos, ◌+ℤ◌, ◌≤ℤ◌, ◌<ℤ◌, List, Some}
use Rattle.itv_base.specs.declared.names.EdgeName.{EdgeName}
use Rattle.event_graph.specs.declared.edge.Edge.{Edge}
use Rattle.event_graph.specs.Edges.{IsAlways, edge}
use Rattle.event_graph.specs.Network.{Net}
use Rattle.event_graph.specs.RootBound.{MeetsAlways}
use Rattle.event_graph.specs.Times.{separation}
use Rattle.minplus.specs.Rows.{IsEntry, IsSmall}
use Rattle.minplus.specs.declared.rows.TheConstants.{ABSENT}

-- the entries of a matrix, given by the numbers of two events
abbrev pub Entries : Type 0
Entries = ℕ → ℕ → ℤ

-- the entry is present: it stands for a path
abbrev pub IsPresent : ℤ → Type 0
IsPresent entry = entry <ℤ ABSENT

-- an entry is at most the sum of two others, if both are present
abbrev pub IsAtMostSum : ℤ → ℤ → ℤ → Type 0
IsAtMostSum entry first second = IsPresent first → IsPresent second → entry ≤ℤ (first +ℤ second)

-- each entry was improved through an event: it is the lesser of itself and the sum of the entries to the event and from it
pub record IsThrough (event : ℕ) (old new : Entries) : Type 0 where
  pub falls : (from to : ℕ) → new from to ≤ℤ old from to
  pub least : (from to : ℕ) → IsAtMostSum (new from to) (old from event) (old event to)
  pub made : (from to : ℕ) → (new from to ≡ old from to)
      ⊎ (IsPresent (old from event) × IsPresent (old event to) × (new from to ≡ (old from event +ℤ old event to)))

-- no detour over an event below a number is shorter than the entry
abbrev pub IsClosedBelow : ℕ → Entries → Type 0
IsClosedBelow events entries = (over from to : ℕ) → over < events → IsAtMostSum (entries from to) (entries from over) (entries over to)

-- no times that meet the always-edges separate two events by more than their entry
abbrev pub BoundsAlways : Net → Entries → Type 0
BoundsAlways net entries = (times : List ℤ) → MeetsAlways times net → (from to : ℕ) → IsPresent (entries from to)
    → separation times (record { 0 = from }) (record { 0 = to }) ≤ℤ entries from to

-- the edge is held: its events are below a number, and its weight is at least the entry from the one to the other
pub record IsEdgeHeld (events : ℕ) (entries : Entries) (e : Edge) : Type 0 where
  pub from : e.from.0 < events
  pub to : e.to.0 < events
  pub small : IsSmall e.weight
  pub longer : entries e.from.0 e.to.0 ≤ℤ e.weight

-- each always-edge is held
abbrev pub HoldsEdges : Net → Entries → Type 0
HoldsEdges net entries = (name : EdgeName) (e : Edge) → IsAlways net name → edge net name ≡ Some e → IsEdgeHeld net.events entries e

-- the closure of a network: no path of always-edges is shorter than its entry, and each entry bounds its separations
pub record IsClosure (net : Net) (entries : Entries) : Type 0 where
  pub held : (from to : ℕ) → IsEntry (entries from to)
  pub closed : IsClosedBelow net.events entries
  pub diagonal : (event : ℕ) → event < net.events → entries event event ≡ pos 0
  pub edges : HoldsEdges net entries
  pub bounds : BoundsAlways net entries
