-- Networks in which the ranges of numbers are moved, wherever these are drawn: in all cycles and at all pins at once.
use Rattle.std.specs.Prelude.{ℤ, ◌+ℤ◌, ◌-ℤ◌, Bool, if◌then◌else◌, ℕ, List, [], ◌∷◌, map, None, option_map}
use Rattle.std.specs.List.{list_any}
use Rattle.itv_base.specs.Range.{Ends}
use Rattle.itv_base.specs.declared.names.Side.{Side}
use Rattle.itv_base.specs.declared.names.Side.TheVariants.{Lower, Upper}
use Rattle.itv_base.specs.declared.row_kind.RowKind.{RowKind}
use Rattle.itv_base.specs.declared.row_kind.RowKind.TheVariants as kinds
use Rattle.origin.specs.declared.origin.Origin.{Origin}
use Rattle.event_graph.specs.declared.cause.Cause.{Cause}
use Rattle.event_graph.specs.Network.{Constraint, Net}
use Rattle.drawn_networks.specs.Drawn.{Drawn, name_of}
use Rattle.drawn_networks.specs.declared.row.Row.{Row}
use Rattle.drawn_numbers.specs.Numbers.{draws}
use Rattle.drawn_numbers.specs.declared.drawn_number.DrawnNumber.{DrawnNumber}

-- the low end moved down by a number of picoseconds, or the high end moved up; a negative number moves it the other way, and an open end stays open
abbrev pub widened : Side → ℤ → Ends → Ends
widened Lower by range = record range { low = option_map (λ low. low -ℤ by) range.low }
widened Upper by range = record range { high = option_map (λ high. high +ℤ by) range.high }

-- the end on a side opened
abbrev pub opened : Side → Ends → Ends
opened Lower range = record range { low = None }
opened Upper range = record range { high = None }

-- both ends moved up by a number of picoseconds
abbrev pub moved_up : ℤ → Ends → Ends
moved_up by range = record { low = option_map (λ low. low +ℤ by) range.low; high = option_map (λ high. high +ℤ by) range.high }

-- one of the numbers gives its range to what this draws
abbrev pub any_draws : List DrawnNumber → List ℕ → Origin → Bool
any_draws numbers part origin = list_any (λ number. draws number part origin) numbers

-- each element changed by what stands at its place in another list, as far as that goes
abbrev pub each_by : {X Y : Type 0} → (X → Y → X) → List X → List Y → List X
each_by f (x ∷ xs) (y ∷ ys) = f x y ∷ each_by f xs ys
each_by f xs ys = xs

-- a constraint with the range of each cause moved that one of the numbers draws
abbrev pub constraint_moved : (Ends → Ends) → Drawn → List DrawnNumber → Constraint → List Origin → Constraint
constraint_moved move drawn numbers c origins = record c {
  causes = each_by (λ (cause : Cause) (origin : Origin).
      if any_draws numbers (name_of drawn c.target).part origin then record cause { range = move cause.range } else cause) c.causes origins;
}

-- the network in which each range that one of the numbers draws is moved
abbrev pub net_moved : (Ends → Ends) → Drawn → List DrawnNumber → Net
net_moved move drawn numbers = record drawn.net { constraints = each_by (constraint_moved move drawn numbers) drawn.net.constraints drawn.origins }

abbrev pub kind_moved : (Ends → Ends) → RowKind → RowKind
kind_moved move kinds.Ask = kinds.Ask
kind_moved move (kinds.Req range) = kinds.Req (move range)

-- a row: the range of a requirement that one of the numbers draws is moved; the part of a row is the part of its from-event
abbrev pub row_moved : (Ends → Ends) → Drawn → List DrawnNumber → Row → Row
row_moved move drawn numbers row = if any_draws numbers (name_of drawn row.from).part row.origin then record row { kind = kind_moved move row.kind } else row

-- the drawn network with the ranges of a number moved
abbrev pub moved_at : Drawn → DrawnNumber → (Ends → Ends) → Drawn
moved_at drawn number move = record drawn { net = net_moved move drawn (number ∷ []) }

-- both ends of some numbers moved up by one number of picoseconds, of requirements too
abbrev pub shifted_at : Drawn → List DrawnNumber → ℤ → Drawn
shifted_at drawn numbers by =
    record drawn { net = net_moved (moved_up by) drawn numbers; rows = map (row_moved (moved_up by) drawn numbers) drawn.rows }
