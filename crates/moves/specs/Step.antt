-- Words of private contracts.
use Rattle.std.specs.Prelude.{◌≡◌, ◌<◌, ◌⊎◌, ℕ, ℤ, pos, neg_ℤ, ◌≤ℤ◌, Bool, IsTrue, if◌then◌else◌, List, [], ◌∷◌, ◌++◌, All, map, option_map, slice_get, unwrap_or}
use Rattle.std.specs.Borrow.{Bor}
use Rattle.std.specs.HashSet.{HashSet, contains}
use Rattle.std.specs.List.{AllZip}
use Rattle.std.specs.declared.hash.BuildHasherDefault.{BuildHasherDefault}
use Rattle.std.specs.declared.hash.FoldHasher.{FoldHasher}
use Rattle.itv_base.specs.Range.{Ends, IsRange}
use Rattle.itv_base.specs.declared.names.Side.{Side}
use Rattle.itv_base.specs.declared.row_kind.RowKind.{RowKind}
use Rattle.itv_base.specs.declared.row_kind.RowKind.TheVariants as kinds
use Rattle.origin.specs.declared.origin.Origin.{Origin}
use Rattle.origin.specs.declared.origin.Origin.TheVariants as origins
use Rattle.event_graph.specs.declared.cause.Cause.{Cause}
use Rattle.event_graph.specs.Network.{AreEnds, Constraint, Net}
use Rattle.event_graph.specs.Satisfying.{Satisfies}
use Rattle.event_graph.specs.Times.{separation}
use Rattle.drawn_networks.specs.Drawn.{Drawn}
use Rattle.drawn_networks.specs.declared.row.Row.{Row}
use Rattle.drawn_numbers.specs.Numbers.{origins_of, part_of_target}
use Rattle.drawn_numbers.specs.declared.drawn_number.DrawnNumber.{DrawnNumber}
use Rattle.drawn_numbers.specs.declared.drawn_number.DrawnNumber.TheVariants as numbers
use Rattle.moves.specs.contracts.number_key.NumberKeyPartialEq.TheImpl as key_eq
use Rattle.moves.specs.declared.moving.Move.{Move}
use Rattle.moves.specs.declared.moving.Move.TheVariants as moves
use Rattle.moves.specs.declared.moving.TheConstants.{MOVE_LIMIT}
use Rattle.moves.specs.declared.number_key.NumberKey.{NumberKey}
use Rattle.moves.specs.declared.number_key.NumberKey.TheVariants as number_keys
use Rattle.moves.specs.declared.number_seen.NumberSeen.{NumberSeen}
use Rattle.moves.specs.Moving.{any_draws, each_by, moved_at, moved_up, opened, widened}
use Rattle.moves.specs.Passing.{MeetsKind}

-- ---- moves

-- a number of picoseconds by which a range may be moved
abbrev pub IsMoveBy : ℤ → Type 0
IsMoveBy by = (neg_ℤ MOVE_LIMIT ≤ℤ by) × (by ≤ℤ MOVE_LIMIT)

abbrev pub IsMove : Move → Type 0
IsMove (moves.Widen side by) = IsMoveBy by
IsMove (moves.Open side) = Unit {0}
IsMove (moves.Shift by) = IsMoveBy by

-- the move opens an end
abbrev pub IsOpening : Move → Type 0
IsOpening (moves.Widen side by) = ⊥
IsOpening (moves.Open side) = Unit {0}
IsOpening (moves.Shift by) = ⊥

-- numbers are moved no further than by another number of picoseconds in the same direction
abbrev pub IsLesserMove : ℤ → ℤ → Type 0
IsLesserMove by far = ((pos 0 ≤ℤ by) × (by ≤ℤ far)) ⊎ ((far ≤ℤ by) × (by ≤ℤ pos 0))

-- what a move makes of a range
abbrev pub moved_by : Move → Ends → Ends
moved_by (moves.Widen side by) range = widened side by range
moved_by (moves.Open side) range = opened side range
moved_by (moves.Shift by) range = moved_up by range

-- what is wanted has ends within the limit
abbrev pub AreKindEnds : RowKind → Type 0
AreKindEnds kinds.Ask = Unit {0}
AreKindEnds (kinds.Req range) = AreEnds range

-- ---- numbers

-- numbers that are lent
abbrev pub lent : List (Bor DrawnNumber) → List DrawnNumber
lent numbers = map (λ (number : Bor DrawnNumber). number.now) numbers

-- the numbers of those that were seen
abbrev pub numbers_seen : List NumberSeen → List DrawnNumber
numbers_seen seen = map (λ (s : NumberSeen). s.number) seen

-- ---- keys of numbers

-- the number of a key
abbrev pub key_number : NumberKey → DrawnNumber
key_number (number_keys.Edge edge part) = numbers.Edge part.now edge
key_number (number_keys.Net net) = numbers.Net net
key_number (number_keys.Wire wire) = numbers.Wire wire

-- the part of a cause that the number of a key draws, and what draws that cause
abbrev pub key_part : NumberKey → List ℕ
key_part (number_keys.Edge edge part) = part.now
key_part (number_keys.Net net) = []
key_part (number_keys.Wire wire) = []

abbrev pub key_origin : NumberKey → Origin
key_origin (number_keys.Edge edge part) = origins.Edge edge
key_origin (number_keys.Net net) = origins.Pin net 0
key_origin (number_keys.Wire wire) = origins.Wire wire

abbrev pub same_number_key : NumberKey → NumberKey → Bool
same_number_key = (key_eq.ghosts).eq

-- a table of keys
abbrev pub NumberKeys : Type 0
NumberKeys = HashSet NumberKey (BuildHasherDefault FoldHasher)

abbrev pub has_key : NumberKeys → NumberKey → Bool
has_key table key = contains same_number_key table key

-- one of the numbers that were seen is that of a key
abbrev pub is_listed : List NumberSeen → NumberKey → Bool
is_listed seen key = any_draws (numbers_seen seen) (key_part key) (key_origin key)

-- the table has the keys of the numbers that were seen, and no others
abbrev pub AreKeysOf : List NumberSeen → NumberKeys → Type 0
AreKeysOf seen table = (key : NumberKey) → has_key table key ≡ is_listed seen key

-- some numbers, with the number of a key and this range where none of them is that number
abbrev pub with_key : List NumberSeen → NumberKey → Ends → List NumberSeen
with_key seen key range = if is_listed seen key then seen else seen ++ (record { number = key_number key; range = range }) ∷ []

-- ---- networks

-- one end of a number moved outward by a number of picoseconds
abbrev pub widened_at : Drawn → DrawnNumber → Side → ℤ → Drawn
widened_at drawn number side by = moved_at drawn number (widened side by)

-- one end of a number opened
abbrev pub opened_at : Drawn → DrawnNumber → Side → Drawn
opened_at drawn number side = moved_at drawn number (opened side)

-- some times satisfy the network
abbrev pub IsConsistent : Drawn → Type 0
IsConsistent drawn = (times : List ℤ) × Satisfies times drawn.net

-- the times meet the requirement of a row
abbrev pub MeetsRow : List ℤ → Row → Type 0
MeetsRow times row = MeetsKind row.kind (separation times row.from row.to)

-- a cause with its range moved, if what draws it meets a test
abbrev pub cause_moved : (Ends → Ends) → (Origin → Bool) → Cause → Origin → Cause
cause_moved move test cause origin = if test origin then record cause { range = move cause.range } else cause

-- of causes that meet a test, by what draws each of them, each range can be drawn
abbrev pub AreDrawable : (Origin → Bool) → List Cause → List Origin → Type 0
AreDrawable test = AllZip (λ (cause : Cause) (origin : Origin). IsTrue (test origin) → IsRange cause.range)

-- a drawn network without origins and names: only its network and its rows are looked at
abbrev pub bare_drawn : Net → List Row → Drawn
bare_drawn net rows = record { net = net; origins = []; names = []; rows = rows }

-- the causes of a constraint
abbrev pub causes_at : Net → ℕ → List Cause
causes_at net constraint = unwrap_or (option_map (λ (c : Constraint). c.causes) (slice_get net.constraints constraint)) []

-- the causes of a constraint, with each range moved that one of the numbers draws
abbrev pub causes_moved : (Ends → Ends) → Drawn → List DrawnNumber → ℕ → List Cause
causes_moved move drawn numbers constraint =
    each_by (cause_moved move (any_draws numbers (part_of_target drawn constraint))) (causes_at drawn.net constraint) (origins_of drawn constraint)

-- a cause, with its range moved where it is drawn
abbrev pub cause_by : Bool → Move → Cause → Cause
cause_by is_drawn by cause = if is_drawn then record cause { range = moved_by by cause.range } else cause

-- causes on events with numbers below `events`
abbrev pub AreOn : ℕ → List Cause → Type 0
AreOn events causes = All (λ (c : Cause). c.event.0 < events) causes

-- causes on the events of the causes of a constraint that is there
abbrev pub HasEventsOf : Net → ℕ → List Cause → Type 0
HasEventsOf net constraint causes = map (λ (c : Cause). c.event) causes ≡ map (λ (c : Cause). c.event) (causes_at net constraint)
