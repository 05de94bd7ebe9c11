-- When the requirements of a drawn network pass, and which of them breaks.
use Rattle.std.specs.Prelude.{ℕ, ℤ, IsTrue, List, All, IsSomeAnd, slice_get}
use Rattle.std.specs.List.{AllZip}
use Rattle.itv_base.specs.Range.{Allows, IsRange}
use Rattle.itv_base.specs.declared.row_kind.RowKind.{RowKind}
use Rattle.itv_base.specs.declared.row_kind.RowKind.TheVariants as kinds
use Rattle.origin.specs.declared.origin.Origin.{Origin}
use Rattle.event_graph.specs.declared.cause.Cause.{Cause}
use Rattle.event_graph.specs.Network.{Constraint}
use Rattle.event_graph.specs.Satisfying.{Satisfies}
use Rattle.event_graph.specs.Times.{separation}
use Rattle.drawn_networks.specs.Drawn.{Drawn, name_of}
use Rattle.drawn_networks.specs.declared.row.Row.{Row}
use Rattle.drawn_numbers.specs.declared.drawn_number.DrawnNumber.{DrawnNumber}
use Rattle.moves.specs.Moving.{any_draws}

-- a separation is as it is wanted; a question wants nothing
abbrev pub MeetsKind : RowKind → ℤ → Type 0
MeetsKind kinds.Ask value = Unit {0}
MeetsKind (kinds.Req range) value = Allows range value

-- no satisfying times break a requirement
abbrev pub NoneBreaks : Drawn → Type 0
NoneBreaks drawn = (times : List ℤ) → Satisfies times drawn.net → All (λ (row : Row). MeetsKind row.kind (separation times row.from row.to)) drawn.rows

-- every requirement passes
abbrev pub Passes : Drawn → Type 0
Passes drawn = ((times : List ℤ) × Satisfies times drawn.net) × NoneBreaks drawn

-- some satisfying times break the requirement of the row with a number
abbrev pub BreaksRow : Drawn → ℕ → Type 0
BreaksRow drawn number =
    (times : List ℤ) × Satisfies times drawn.net × IsSomeAnd (slice_get drawn.rows number) (λ (row : Row). MeetsKind row.kind (separation times row.from row.to) → ⊥)

-- each range of a cause that one of the numbers draws can be drawn: its ends are within the limit, and the low one is not above the high one
abbrev pub HasDrawableCauses : Drawn → List DrawnNumber → Type 0
HasDrawableCauses drawn numbers = AllZip (λ (c : Constraint). AllZip (λ (cause : Cause) (origin : Origin).
    IsTrue (any_draws numbers (name_of drawn c.target).part origin) → IsRange cause.range) c.causes) drawn.net.constraints drawn.origins

abbrev pub IsKindRange : RowKind → Type 0
IsKindRange kinds.Ask = Unit {0}
IsKindRange (kinds.Req range) = IsRange range

-- the same of each range of a requirement that one of the numbers draws
abbrev pub HasDrawableRows : Drawn → List DrawnNumber → Type 0
HasDrawableRows drawn numbers = All (λ (row : Row). IsTrue (any_draws numbers (name_of drawn row.from).part row.origin) → IsKindRange row.kind) drawn.rows

-- the same of each range that one of the numbers draws
abbrev pub HasDrawableRanges : Drawn → List DrawnNumber → Type 0
HasDrawableRanges drawn numbers = HasDrawableCauses drawn numbers × HasDrawableRows drawn numbers
