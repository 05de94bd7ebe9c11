-- The network of a drawn network without the constraints that keep the order of a lane.
use Rattle.std.specs.Prelude.{ℤ, Bool, if◌then◌else◌, List, [], ◌∷◌}
use Rattle.std.specs.List.{list_any}
use Rattle.event_graph.specs.Network.{Constraint, Net}
use Rattle.event_graph.specs.Satisfying.{Satisfies}
use Rattle.origin.specs.declared.origin.Origin.{Origin}
use Rattle.origin.specs.Order.{is_lane}
use Rattle.drawn_networks.specs.Drawn.{Drawn}

-- a constraint keeps the order of a lane, if the order of a lane draws one of its causes
abbrev pub keeps_order : List Origin → Bool
keeps_order origins = list_any is_lane origins

-- the constraints that keep no order of a lane, according to the origins of their causes
abbrev pub constraints_apart : List Constraint → List (List Origin) → List Constraint
constraints_apart [] origins = []
constraints_apart (c ∷ others) [] = c ∷ others
constraints_apart (c ∷ others) (drew ∷ origins) = if keeps_order drew then constraints_apart others origins else c ∷ constraints_apart others origins

-- the network apart from the order of lanes: all events, and the constraints that keep no such order
abbrev pub net_apart : Drawn → Net
net_apart drawn = record { events = drawn.net.events; constraints = constraints_apart drawn.net.constraints drawn.origins }

-- times that satisfy the drawn network satisfy the network apart
abbrev pub ApartIsWider : Type 0
ApartIsWider = (drawn : Drawn) (times : List ℤ) → Satisfies times drawn.net → Satisfies times (net_apart drawn)
