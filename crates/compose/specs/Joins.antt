-- The joins of nets. The code keeps them pin by pin.
use Rattle.std.specs.Prelude.{ℕ, zero, suc, ◌+◌, List, [], ◌∷◌, ◌++◌}
use Rattle.std.specs.List.{flat_map}
use Rattle.compose.specs.declared.mark.DesignMark.{DesignMark}
use Rattle.compose.specs.declared.joins.Join.{Join}
use Rattle.compose.specs.declared.joins.PinJoins.{PinJoins}

-- the mark of the same part whose number is greater by `k`
abbrev pub mark_behind : DesignMark → ℕ → DesignMark
mark_behind mark k = record { part = mark.part; mark = mark.mark + k }

-- mark k of the driver, joined to mark k of the pin
abbrev pub join_at : PinJoins → ℕ → Join
join_at pin k = record { from = mark_behind pin.driver k; to = mark_behind pin.driven k; delay = pin.delay; origin = pin.origin }

-- the joins of the first `k` marks of the two pins
abbrev pub first_joins : PinJoins → ℕ → List Join
first_joins pin zero = []
first_joins pin (suc k) = first_joins pin k ++ join_at pin k ∷ []

-- the joins of a pin, mark by mark
abbrev pub pin_joins : PinJoins → List Join
pin_joins pin = first_joins pin pin.marks

-- the joins of pins, one pin after the other
abbrev pub joins_of_pins : List PinJoins → List Join
joins_of_pins pins = flat_map pin_joins pins
