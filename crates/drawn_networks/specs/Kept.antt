-- Drawn networks as they are kept. The name of an event has the number of its part in place of the name of the part.
use Rattle.std.specs.Prelude.{◌≡◌, ◌<◌, ◌≤◌, ℕ, List, [], length, map, All, slice_get, unwrap_or}
use Rattle.itv_base.specs.Names.{Name}
use Rattle.itv_base.specs.declared.limits.TheConstants.{MAX_ROWS}
use Rattle.origin.specs.declared.origin.Origin.{Origin}
use Rattle.event_graph.specs.Network.{Net}
use Rattle.drawn_networks.specs.declared.event_label.EventLabel.{EventLabel}
use Rattle.drawn_networks.specs.declared.row.Row.{Row}
use Rattle.drawn_networks.specs.Drawn.{Drawn, IsRowOf, OriginsFit}

-- the name that a label gives, given the names of the parts
abbrev pub name_by : List (List ℕ) → EventLabel → Name
name_by parts label = record { part = unwrap_or (slice_get parts label.part) []; mark = label.mark; cycle = label.cycle }

-- the drawn network of a network, origins, labels and rows
abbrev pub drawn_by : Net → List (List Origin) → List (List ℕ) → List EventLabel → List Row → Drawn
drawn_by net origins parts labels rows = record { net = net; origins = origins; names = map (name_by parts) labels; rows = rows }

-- each cause has an origin, each event has a name of a part that is there, and the rows are between events, within their limit
pub record IsDrawn (net : Net) (drew : List (List Origin)) (texts : List (List ℕ)) (labels : List EventLabel) (asked : List Row) : Type 0 where
  pub origins : OriginsFit net drew
  pub names : length labels ≡ net.events
  pub parts : All (λ (label : EventLabel). label.part < length texts) labels
  pub rows : All (IsRowOf net) asked
  pub few : length asked ≤ MAX_ROWS
