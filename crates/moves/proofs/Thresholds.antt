-- A margin is a threshold.
use Rattle.std.proofs.Common.{◌≡◌, ℕ, ℤ, pos, ◌+ℤ◌, ◌≤ℤ◌, ◌<ℤ◌, List, [], ◌∷◌, All, Option, Some, None, slice_get, refl, arith}
use Rattle.std.specs.Prelude.{IsSomeAnd}
use Rattle.std.proofs.lemmas.Int.{ints}
use Rattle.itv_base.specs.declared.names.Side.{Side}
use Rattle.event_graph.proofs.EdgesMet.{All-found}
use Rattle.event_graph.proofs.Widening.{wider_keeps_satisfying}
use Rattle.drawn_networks.specs.Drawn.{Drawn}
use Rattle.drawn_networks.specs.declared.row.Row.{Row}
use Rattle.drawn_numbers.specs.declared.drawn_number.DrawnNumber.{DrawnNumber}
use Rattle.moves.specs.Laws.{FreeIsForAll, MarginIsThreshold, OneMargin}
use Rattle.moves.specs.Moving.{opened, widened}
use Rattle.moves.specs.Passing.{BreaksRow, NoneBreaks}
use Rattle.moves.specs.Step.{MeetsRow, opened_at, widened_at}
use Rattle.moves.proofs.Widened.{nets_wider, opened_holds, widened_more}

-- what breaks does not pass
excluded_at : (times : List ℤ) (rows : List Row) (k : ℕ) (o : Option Row) → slice_get rows k ≡ o → All (MeetsRow times) rows → IsSomeAnd o (λ row. MeetsRow times row → ⊥) → ⊥
excluded_at times rows k None at all breaks = breaks
excluded_at times rows k (Some row) at all breaks = breaks (All-found (MeetsRow times) rows k row at all)

pub excluded : (drawn : Drawn) (row : ℕ) → NoneBreaks drawn → BreaksRow drawn row → ⊥
excluded drawn row none breaks =
    excluded_at breaks.0 drawn.rows row (slice_get drawn.rows row) refl (none breaks.0 breaks.1) breaks.2

-- ---- moves of an end

pub breaks_more : (drawn : Drawn) (number : DrawnNumber) (side : Side) (by more : ℤ) (row : ℕ) → by ≤ℤ more → BreaksRow (widened_at drawn number side by) row
    → BreaksRow (widened_at drawn number side more) row
breaks_more drawn number side by more row le breaks = (
  breaks.0,
  wider_keeps_satisfying (widened_at drawn number side by).net (widened_at drawn number side more).net breaks.0
      (nets_wider (widened side by) (widened side more) (λ range. widened_more side by more range le) drawn (number ∷ [])) breaks.1,
  breaks.2,
)

pub none_less : (drawn : Drawn) (number : DrawnNumber) (side : Side) (by less : ℤ) → less ≤ℤ by → NoneBreaks (widened_at drawn number side by)
    → NoneBreaks (widened_at drawn number side less)
none_less drawn number side by less le none = λ times sat.
    none times (wider_keeps_satisfying (widened_at drawn number side less).net (widened_at drawn number side by).net times
    (nets_wider (widened side less) (widened side by) (λ range. widened_more side less by range le) drawn (number ∷ [])) sat)

pub margin_is_threshold : MarginIsThreshold
margin_is_threshold drawn budget number side by row found = (
  (λ more greater. breaks_more drawn number side (by +ℤ pos 1) more row (omega (arith, ints, greater)) found.2),
  (λ less le. none_less drawn number side by less le found.1.1),
)

-- ---- one margin

not_beyond : (drawn : Drawn) (number : DrawnNumber) (side : Side) (by more : ℤ) (row : ℕ) → BreaksRow (widened_at drawn number side (by +ℤ pos 1)) row
    → NoneBreaks (widened_at drawn number side more) → by <ℤ more → ⊥
not_beyond drawn number side by more row breaks none less =
    excluded (widened_at drawn number side more) row none (breaks_more drawn number side (by +ℤ pos 1) more row (omega (arith, ints, less)) breaks)

same_by : (a b : ℤ) → (a <ℤ b → ⊥) → (b <ℤ a → ⊥) → a ≡ b
same_by a b not_less not_more = grind (arith, ints)

pub one_margin : OneMargin
one_margin drawn budget number side by more row other first second =
    same_by by more (not_beyond drawn number side by more row first.2 second.1.1) (not_beyond drawn number side more by other second.2 first.1.1)

-- ---- free ends

pub free_is_for_all : FreeIsForAll
free_is_for_all drawn budget number side free by = λ times sat.
    free.1 times (wider_keeps_satisfying (widened_at drawn number side by).net (opened_at drawn number side).net times
    (nets_wider (widened side by) (opened side) (opened_holds side by) drawn (number ∷ [])) sat)
