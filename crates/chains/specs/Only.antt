-- The network in which only the constraints of a set ask something of times.
use Rattle.std.specs.Prelude.{true, false, Bool, List, [], ◌∷◌, None}
use Rattle.event_graph.specs.Network.{Constraint, Net, linear}

-- a constraint that takes the place of another, with the same target, and asks nothing: any time of the target is in its range
abbrev pub free_constraint : Constraint → Constraint
free_constraint c = linear c.target c.target (record { low = None; high = None })

-- the constraint, if its flag is set; otherwise one that asks nothing
abbrev pub only_constraint : Bool → Constraint → Constraint
only_constraint true c = c
only_constraint false c = free_constraint c

-- the constraints; each whose flag is not set asks nothing
abbrev pub only_constraints : List Bool → List Constraint → List Constraint
only_constraints set [] = []
only_constraints [] (c ∷ cs) = free_constraint c ∷ only_constraints [] cs
only_constraints (is_in ∷ set) (c ∷ cs) = only_constraint is_in c ∷ only_constraints set cs

-- The network with the constraints of the set. They keep their numbers, and the other constraints ask nothing.
abbrev pub only_net : List Bool → Net → Net
only_net set net = record net { constraints = only_constraints set net.constraints }
