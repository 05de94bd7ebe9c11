-- Laws of numbers as they are drawn.
use Rattle.std.specs.Prelude.{◌≡◌, ◌↔◌, if◌then◌else◌, Some, option_map, slice_get, Contains}
use Rattle.itv_base.specs.Range.{Ends}
use Rattle.origin.specs.declared.origin.Origin.{Origin}
use Rattle.event_graph.specs.Network.{Constraint, cause_at}
use Rattle.event_graph.specs.declared.cause.Cause.{Cause}
use Rattle.drawn_networks.specs.Drawn.{Drawn}
use Rattle.drawn_numbers.specs.Numbers.{IsOfNumber, causes_of, draws_cause, origins_of, with_ranges}
use Rattle.drawn_numbers.specs.declared.cause_name.CauseName.{CauseName}
use Rattle.drawn_numbers.specs.declared.drawn_number.DrawnNumber.{DrawnNumber}

-- a cause of a constraint is among the causes of a number if and only if the number gives its range to what draws the cause
abbrev pub CausesAreAllDrawn : Type 0
CausesAreAllDrawn = (drawn : Drawn) (number : DrawnNumber) (name : CauseName) (c : Constraint) (origin : Origin) → slice_get drawn.net.constraints name.constraint ≡ Some c
    → slice_get (origins_of drawn name.constraint) name.cause ≡ Some origin → Contains (causes_of drawn number) name ↔ IsOfNumber drawn c.target origin number

-- with another range for the causes of a number each cause that it draws has this range, and each other cause is as it was
abbrev pub NumbersAreSet : Type 0
NumbersAreSet = (drawn : Drawn) (number : DrawnNumber) (range : Ends) (name : CauseName)
    → cause_at (with_ranges drawn.net (causes_of drawn number) range) name.constraint name.cause
    ≡ option_map (λ (c : Cause). if draws_cause drawn number name then record c { range = range } else c) (cause_at drawn.net name.constraint name.cause)
