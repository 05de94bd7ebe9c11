-- The numbers of a drawing, each with its range: those that draw causes in the order in which they first do, and then those that draw requirements.
use Rattle.std.specs.Prelude.{ℕ, if◌then◌else◌, List, [], ◌∷◌, ◌++◌, map, fold, zip}
use Rattle.itv_base.specs.Range.{Ends}
use Rattle.itv_base.specs.declared.row_kind.RowKind.{RowKind}
use Rattle.itv_base.specs.declared.row_kind.RowKind.TheVariants as kinds
use Rattle.origin.specs.declared.origin.Origin.{Origin}
use Rattle.origin.specs.declared.origin.Origin.TheVariants as origins
use Rattle.event_graph.specs.declared.cause.Cause.{Cause}
use Rattle.event_graph.specs.Network.{Constraint}
use Rattle.drawn_networks.specs.Drawn.{Drawn, name_of}
use Rattle.drawn_networks.specs.declared.row.Row.{Row}
use Rattle.drawn_numbers.specs.declared.drawn_number.DrawnNumber.TheVariants as numbers
use Rattle.moves.specs.declared.number_seen.NumberSeen.{NumberSeen}
use Rattle.moves.specs.Moving.{any_draws}

-- the number that draws a cause of a part, given its origin, with the range of the cause; the order of a lane is no number
abbrev pub number_by : List ℕ → Origin → Ends → List NumberSeen
number_by part (origins.Lane lane) range = []
number_by part (origins.Edge edge) range = (record { number = numbers.Edge part edge; range = range }) ∷ []
number_by part (origins.Pin net pin) range = (record { number = numbers.Net net; range = range }) ∷ []
number_by part (origins.Wire wire) range = (record { number = numbers.Wire wire; range = range }) ∷ []

-- some numbers, and the number that draws a cause, if none of them draws it
abbrev pub with_cause : List ℕ → List NumberSeen → Cause × Origin → List NumberSeen
with_cause part seen (cause, origin) = if any_draws (map (λ (s : NumberSeen). s.number) seen) part origin then seen else seen ++ number_by part origin cause.range

-- the same for each cause of a constraint
abbrev pub with_causes : Drawn → List NumberSeen → Constraint × List Origin → List NumberSeen
with_causes drawn seen (c, drew) = fold (with_cause (name_of drawn c.target).part) seen (zip c.causes drew)

-- all numbers that draw a cause
abbrev pub numbers_of : Drawn → List NumberSeen
numbers_of drawn = fold (with_causes drawn) [] (zip drawn.net.constraints drawn.origins)

-- some numbers, and the number that draws a requirement, if none of them draws it
abbrev pub with_kind : List ℕ → List NumberSeen → Origin → RowKind → List NumberSeen
with_kind part seen origin kinds.Ask = seen
with_kind part seen origin (kinds.Req range) = if any_draws (map (λ (s : NumberSeen). s.number) seen) part origin then seen else seen ++ number_by part origin range

-- all numbers that draw a cause or a requirement
abbrev pub all_numbers_of : Drawn → List NumberSeen
all_numbers_of drawn = fold (λ seen (row : Row). with_kind (name_of drawn row.from).part seen row.origin row.kind) (numbers_of drawn) drawn.rows
