-- Numbers as they are drawn. Each gives its range to causes of a drawn network, in all cycles at once.
use Rattle.std.specs.Prelude.{◌==◌, ◌<◌, ℕ, zero, suc, Bool, false, ◌&&◌, IsSome, IsTrue, if◌then◌else◌, List, [], ◌∷◌, ◌++◌, codes, length, option_map, slice_get, unwrap_or, ◌^◌}
use Rattle.std.specs.Option.{option_map_or}
use Rattle.std.specs.Str.{bytes_eq}
use Rattle.itv_base.specs.Characters.{is_name}
use Rattle.itv_base.specs.Numerals.{number_text}
use Rattle.itv_base.specs.Range.{Ends}
use Rattle.itv_base.specs.declared.names.EventId.{EventId}
use Rattle.origin.specs.declared.origin.Origin.{Origin}
use Rattle.origin.specs.declared.origin.Origin.TheVariants as origins
use Rattle.event_graph.specs.Network.{Constraint, Net, cause_at, with_range}
use Rattle.drawn_networks.specs.Drawn.{Drawn, name_of}
use Rattle.drawn_numbers.specs.declared.cause_name.CauseName.{CauseName}
use Rattle.drawn_numbers.specs.declared.drawn_number.DrawnNumber.{DrawnNumber}
use Rattle.drawn_numbers.specs.declared.drawn_number.DrawnNumber.TheVariants as numbers

-- ---- what a number draws

-- the number gives its range to a cause that this draws, given the part of the target of the cause's constraint; the order of a lane is no number
abbrev pub draws : DrawnNumber → List ℕ → Origin → Bool
draws (numbers.Edge own edge) part (origins.Edge number) = number == edge && bytes_eq own part
draws (numbers.Net net) part (origins.Pin number pin) = number == net
draws (numbers.Wire wire) part (origins.Wire number) = number == wire
draws number part origin = false

-- the same for a cause of a constraint on this target
abbrev pub IsOfNumber : Drawn → EventId → Origin → DrawnNumber → Type 0
IsOfNumber drawn target origin number = IsTrue (draws number (name_of drawn target).part origin)

-- ---- the causes that a number draws

-- the part of the target of a constraint
abbrev pub part_of_target : Drawn → ℕ → List ℕ
part_of_target drawn constraint = unwrap_or (option_map (λ (c : Constraint). (name_of drawn c.target).part) (slice_get drawn.net.constraints constraint)) []

-- what draws the causes of a constraint
abbrev pub origins_of : Drawn → ℕ → List Origin
origins_of drawn constraint = unwrap_or (slice_get drawn.origins constraint) []

-- the number draws this cause of this constraint
abbrev pub draws_cause : Drawn → DrawnNumber → CauseName → Bool
draws_cause drawn number name = option_map_or (draws number (part_of_target drawn name.constraint)) (slice_get (origins_of drawn name.constraint) name.cause) false

-- of the first so many causes of a constraint those whose origin meets a test
abbrev pub causes_among : (Origin → Bool) → ℕ → List Origin → ℕ → List CauseName
causes_among test constraint origins zero = []
causes_among test constraint origins (suc cause) =
    causes_among test constraint origins cause
    ++ (if option_map_or test (slice_get origins cause) false then (record { constraint = constraint; cause = cause }) ∷ [] else [])

-- the causes that a number draws in the first so many constraints
abbrev pub causes_before : Drawn → DrawnNumber → ℕ → List CauseName
causes_before drawn number zero = []
causes_before drawn number (suc constraint) =
    causes_before drawn number constraint
    ++ causes_among (draws number (part_of_target drawn constraint)) constraint (origins_of drawn constraint) (length (origins_of drawn constraint))

-- the causes that a number draws, in the order of constraints and of their causes
abbrev pub causes_of : Drawn → DrawnNumber → List CauseName
causes_of drawn number = causes_before drawn number (length drawn.net.constraints)

-- the cause is there
abbrev pub IsCauseOf : Net → CauseName → Type 0
IsCauseOf net name = IsSome (cause_at net name.constraint name.cause)

-- ---- other ranges

-- the network with another range for each of these causes; a cause that is not there is ignored
abbrev pub with_ranges : Net → List CauseName → Ends → Net
with_ranges net [] range = net
with_ranges net (name ∷ names) range = with_ranges (with_range net name.constraint name.cause range) names range

-- ---- texts

-- the text of a number: what it is called in a report
abbrev pub drawn_number_text : DrawnNumber → List ℕ
drawn_number_text (numbers.Edge part edge) = part ++ (codes " edge " ++ number_text edge)
drawn_number_text (numbers.Net net) = codes "net " ++ number_text net
drawn_number_text (numbers.Wire wire) = codes "wire " ++ number_text wire

-- a number that has a text of this form: it is below 2^32, and the part has the form of a name
abbrev pub HasNumberForm : DrawnNumber → Type 0
HasNumberForm (numbers.Edge part edge) = IsTrue (is_name part) × (edge < 2 ^ 32)
HasNumberForm (numbers.Net net) = net < 2 ^ 32
HasNumberForm (numbers.Wire wire) = wire < 2 ^ 32
