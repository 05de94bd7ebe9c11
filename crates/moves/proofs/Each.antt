-- Each cause that one of the numbers draws is moved, and each other one stays.
use Rattle.std.proofs.Common.{◌≡◌, ℕ, zero, suc, ℤ, pos, ◌+ℤ◌, ◌-ℤ◌, Bool, true, false, List, [], ◌∷◌, map, Option, Some, None, option_map, option_and_then, slice_get, refl, sym, ap, ◌∙◌, arith}
use Rattle.std.specs.Prelude.{if◌then◌else◌, unwrap_or}
use Rattle.std.specs.List.{list_any}
use Rattle.std.specs.Option.{option_map_or}
use Rattle.std.proofs.lemmas.Int.{ints}
use Rattle.itv_base.specs.Range.{Ends}
use Rattle.itv_base.specs.declared.names.Side.{Side}
use Rattle.itv_base.specs.declared.names.Side.TheVariants.{Lower, Upper}
use Rattle.itv_base.specs.declared.row_kind.RowKind.{RowKind}
use Rattle.itv_base.specs.declared.row_kind.RowKind.TheVariants as kinds
use Rattle.origin.specs.declared.origin.Origin.{Origin}
use Rattle.event_graph.specs.declared.cause.Cause.{Cause}
use Rattle.event_graph.specs.Network.{Constraint, Net, cause_at}
use Rattle.drawn_networks.specs.Drawn.{Drawn, name_of}
use Rattle.drawn_networks.specs.declared.row.Row.{Row}
use Rattle.drawn_numbers.specs.Numbers.{draws, origins_of, part_of_target}
use Rattle.drawn_numbers.specs.declared.drawn_number.DrawnNumber.{DrawnNumber}
use Rattle.moves.specs.Laws.{EachIsMoved, MovedByNothing}
use Rattle.moves.specs.Moving.{constraint_moved, any_draws, each_by, kind_moved, net_moved, row_moved, moved_up, shifted_at, widened}
use Rattle.moves.specs.Step.{cause_moved}
use Rattle.moves.proofs.Lists.{each_same}

-- ---- which causes are drawn

none_of : (numbers : List DrawnNumber) → list_any (λ (number : DrawnNumber). false) numbers ≡ false
none_of [] = refl
none_of (n ∷ numbers) = none_of numbers

any_drawn : (numbers : List DrawnNumber) (part : List ℕ) (o : Option Origin)
    → list_any (λ (number : DrawnNumber). option_map_or (draws number part) o false) numbers ≡ option_map_or (any_draws numbers part) o false
any_drawn numbers part None = none_of numbers
any_drawn numbers part (Some origin) = refl

-- ---- the causes of a constraint

abbrev moved_if : (Ends → Ends) → Bool → Cause → Cause
moved_if move is_drawn c = if is_drawn then record c { range = move c.range } else c

undrawn : (move : Ends → Ends) (o : Option Cause) → o ≡ option_map (λ (c : Cause). moved_if move false c) o
undrawn move None = refl
undrawn move (Some c) = refl

causes_at : (move : Ends → Ends) (test : Origin → Bool) (cs : List Cause) (origins : List Origin) (i : ℕ)
    → slice_get (each_by (cause_moved move test) cs origins) i ≡ option_map (λ (c : Cause). moved_if move (option_map_or test (slice_get origins i) false) c) (slice_get cs i)
causes_at move test [] origins i = refl
causes_at move test (c ∷ cs) [] i = undrawn move (slice_get (c ∷ cs) i)
causes_at move test (c ∷ cs) (o ∷ origins) zero = refl
causes_at move test (c ∷ cs) (o ∷ origins) (suc i) = causes_at move test cs origins i

-- ---- all constraints

module _ (move : Ends → Ends) (drawn : Drawn) (numbers : List DrawnNumber) where
  abbrev is_drawn_in : List Constraint → List (List Origin) → ℕ → ℕ → Bool
  is_drawn_in ks drew k i =
      option_map_or (any_draws numbers (unwrap_or (option_map (λ (c : Constraint). (name_of drawn c.target).part) (slice_get ks k)) []))
      (slice_get (unwrap_or (slice_get drew k) []) i) false

  constraints_at : (ks : List Constraint) (drew : List (List Origin)) (k i : ℕ)
      → option_and_then (λ (c : Constraint). slice_get c.causes i) (slice_get (each_by (constraint_moved move drawn numbers) ks drew) k)
      ≡ option_map (λ (c : Cause). moved_if move (is_drawn_in ks drew k i) c) (option_and_then (λ (c : Constraint). slice_get c.causes i) (slice_get ks k))
  constraints_at [] drew k i = refl
  constraints_at (c ∷ ks) [] k i = undrawn move (option_and_then (λ (d : Constraint). slice_get d.causes i) (slice_get (c ∷ ks) k))
  constraints_at (c ∷ ks) (origins ∷ drew) zero i = causes_at move (any_draws numbers (name_of drawn c.target).part) c.causes origins i
  constraints_at (c ∷ ks) (origins ∷ drew) (suc k) i = constraints_at ks drew k i

pub each_is_moved : EachIsMoved
each_is_moved drawn numbers move name =
    constraints_at move drawn numbers drawn.net.constraints drawn.origins name.constraint name.cause
    ∙ ap (λ (b : Bool). option_map (λ (c : Cause). moved_if move b c) (cause_at drawn.net name.constraint name.cause))
    (sym (any_drawn numbers (part_of_target drawn name.constraint) (slice_get (origins_of drawn name.constraint) name.cause)))

-- ---- a move by nothing

less_nothing : (z : ℤ) → (z -ℤ pos 0) ≡ z
less_nothing z = omega (arith, ints)

more_nothing : (z : ℤ) → (z +ℤ pos 0) ≡ z
more_nothing z = omega (arith, ints)

low_same : (end : Option ℤ) → option_map (λ low. low -ℤ pos 0) end ≡ end
low_same None = refl
low_same (Some z) = ap (λ (v : ℤ). Some v) (less_nothing z)

high_same : (end : Option ℤ) → option_map (λ high. high +ℤ pos 0) end ≡ end
high_same None = refl
high_same (Some z) = ap (λ (v : ℤ). Some v) (more_nothing z)

range_same : (side : Side) (range : Ends) → widened side (pos 0) range ≡ range
range_same Lower range = ap (λ (end : Option ℤ). record range { low = end }) (low_same range.low)
range_same Upper range = ap (λ (end : Option ℤ). record range { high = end }) (high_same range.high)

both_same : (range : Ends) → moved_up (pos 0) range ≡ range
both_same range =
    let by_low : Option ℤ → Ends = λ end. record { low = end; high = option_map (λ high. high +ℤ pos 0) range.high } in
    ap by_low (high_same range.low)
    ∙ ap (λ (end : Option ℤ). record range { high = end }) (high_same range.high)

module _ (move : Ends → Ends) (same : (range : Ends) → move range ≡ range) (drawn : Drawn) (numbers : List DrawnNumber) where
  one_same : (is_drawn : Bool) (c : Cause) → moved_if move is_drawn c ≡ c
  one_same true c = ap (λ (range : Ends). record c { range = range }) (same c.range)
  one_same false c = refl

  constraint_same : (c : Constraint) (origins : List Origin) → constraint_moved move drawn numbers c origins ≡ c
  constraint_same c origins =
      let test : Origin → Bool = any_draws numbers (name_of drawn c.target).part in
      ap (λ (cs : List Cause). record c { causes = cs }) (each_same (cause_moved move test) (λ d o. one_same (test o) d) c.causes origins)

  net_same : net_moved move drawn numbers ≡ drawn.net
  net_same = ap (λ (ks : List Constraint). record drawn.net { constraints = ks }) (each_same (constraint_moved move drawn numbers) constraint_same drawn.net.constraints drawn.origins)

  kind_same : (kind : RowKind) → kind_moved move kind ≡ kind
  kind_same kinds.Ask = refl
  kind_same (kinds.Req range) = ap (λ (r : Ends). kinds.Req r) (same range)

  row_same : (is_drawn : Bool) (row : Row) → (if is_drawn then record row { kind = kind_moved move row.kind } else row) ≡ row
  row_same true row = ap (λ (kind : RowKind). record row { kind = kind }) (kind_same row.kind)
  row_same false row = refl

  rows_same : (rows : List Row) → map (row_moved move drawn numbers) rows ≡ rows
  rows_same [] = refl
  rows_same (row ∷ rows) =
      ap (λ (r : Row). r ∷ map (row_moved move drawn numbers) rows) (row_same (any_draws numbers (name_of drawn row.from).part row.origin) row)
      ∙ ap (λ (rs : List Row). row ∷ rs) (rows_same rows)

pub moved_by_nothing : MovedByNothing
moved_by_nothing drawn number side = ap (λ (n : Net). record drawn { net = n }) (net_same (widened side (pos 0)) (range_same side) drawn (number ∷ []))

-- and so are numbers that are moved up by nothing
pub shifted_by_nothing : (drawn : Drawn) (numbers : List DrawnNumber) → shifted_at drawn numbers (pos 0) ≡ drawn
shifted_by_nothing drawn numbers =
    ap (λ (n : Net). record drawn { net = n; rows = map (row_moved (moved_up (pos 0)) drawn numbers) drawn.rows }) (net_same (moved_up (pos 0)) both_same drawn numbers)
    ∙ ap (λ (rs : List Row). record drawn { rows = rs }) (rows_same (moved_up (pos 0)) both_same drawn numbers drawn.rows)
