-- What a solver keeps of the constraints that may be able to lower a value.
use Rattle.std.specs.Prelude.{◌≡◌, ◌<◌, ◌≤◌, ◌*◌, ℕ, List, length, All, Contains, Some}
use Rattle.itv_base.specs.declared.names.EdgeName.{EdgeName}
use Rattle.event_graph.specs.declared.edge.Edge.{Edge}
use Rattle.event_graph.specs.Edges.{edge}
use Rattle.event_graph.specs.EventLists.{at_event}
use Rattle.event_graph.specs.Network.{Net}

-- a list for each event, of numbers of constraints
pub record AreLists (net : Net) (lists : List (List ℕ)) : Type 0 where
  pub count : length lists ≡ net.events
  pub within : (event : ℕ) → All (λ (number : ℕ). number < length net.constraints) (at_event lists event)

-- where there is an edge of the name, its constraint follows the event where the edge starts
abbrev pub HasName : Net → List (List ℕ) → EdgeName → Type 0
HasName net lists name = (e : Edge) → edge net name ≡ Some e → Contains (at_event lists e.from.0) name.constraint

-- for each event the constraints with an edge that starts there
pub record AreFollowers (net : Net) (followers : List (List ℕ)) : Type 0 where
  pub lists : AreLists net followers
  pub edges : (name : EdgeName) → HasName net followers name

-- the followers of each event, and the words of the flags
pub record Agenda : Type 0 where
  pub followers : List (List ℕ)
  pub pending : List ℕ

-- the followers of the events of a network, and room for a flag of each constraint
pub record IsAgendaFor (net : Net) (agenda : Agenda) : Type 0 where
  pub followers : AreFollowers net agenda.followers
  pub room : length net.constraints ≤ 64 * length agenda.pending
