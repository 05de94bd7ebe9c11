-- Times that stay with a greater move of an end, and with the end open.
use Rattle.std.proofs.Common.{ℤ, ◌≤ℤ◌, [], ◌∷◌}
use Rattle.itv_base.specs.Range.{Ends}
use Rattle.itv_base.specs.declared.names.Side.{Side}
use Rattle.itv_base.specs.declared.names.Side.TheVariants.{Lower, Upper}
use Rattle.event_graph.specs.Widening.{IsWider}
use Rattle.event_graph.proofs.Widening.{wider_keeps_satisfying}
use Rattle.drawn_networks.specs.Drawn.{Drawn}
use Rattle.drawn_numbers.specs.declared.drawn_number.DrawnNumber.{DrawnNumber}
use Rattle.moves.specs.Moving.{opened, widened}
use Rattle.moves.specs.Step.{IsConsistent, opened_at, widened_at}
use Rattle.moves.proofs.Widened.{IsWithinRange, higher_same, lower_same, nets_wider, opened_holds, widened_more}

-- a range is within the range with an end open
pub open_holds : (side : Side) (range : Ends) → IsWithinRange range (opened side range)
open_holds Lower range = (tt, higher_same range.high)
open_holds Upper range = (lower_same range.low, tt)

module _ (drawn : Drawn) (number : DrawnNumber) (side : Side) where
  moved_wider : (by more : ℤ) → by ≤ℤ more → IsWider (widened_at drawn number side by).net (widened_at drawn number side more).net
  moved_wider by more le = nets_wider (widened side by) (widened side more) (λ range. widened_more side by more range le) drawn (number ∷ [])

  open_wider : (by : ℤ) → IsWider (widened_at drawn number side by).net (opened_at drawn number side).net
  open_wider by = nets_wider (widened side by) (opened side) (opened_holds side by) drawn (number ∷ [])

  pub some_more : (by more : ℤ) → by ≤ℤ more → IsConsistent (widened_at drawn number side by) → IsConsistent (widened_at drawn number side more)
  some_more by more le some = (some.0, wider_keeps_satisfying (widened_at drawn number side by).net (widened_at drawn number side more).net some.0 (moved_wider by more le) some.1)

  pub some_open : (by : ℤ) → IsConsistent (widened_at drawn number side by) → IsConsistent (opened_at drawn number side)
  some_open by some = (some.0, wider_keeps_satisfying (widened_at drawn number side by).net (opened_at drawn number side).net some.0 (open_wider by) some.1)
