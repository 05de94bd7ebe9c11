-- The stages of a matrix that is improved through one event after another.
use Rattle.std.proofs.Common.{◌≡◌, ◌+◌, ◌*◌, ◌<◌, ◌≤◌, ◌^◌, inl, inr, ℕ, ℤ, pos, ◌+ℤ◌, [], eqb, List, sym, subst, refl, arith}
use Rattle.std.specs.Prelude.{unsigned_abs}
use Rattle.std.specs.List.{IsDistinct}
use Rattle.std.proofs.lemmas.Int.{ints}
use lib.Signed.{◌≤ℤ◌}
use Rattle.itv_base.specs.declared.limits.TheConstants.{END_LIMIT, MAX_MATRIX_EVENTS}
use Rattle.event_graph.specs.Network.{Net}
use Rattle.minplus.specs.Rows.{IsEntry}
use Rattle.minplus.specs.Matrix.{cells}
use Rattle.minplus.specs.Step.Entries.{Entries, HoldsEdges, IsClosure, IsEdgeHeld, IsPresent, IsThrough}
use Rattle.minplus.specs.Step.Edges.{BoundSeparations}
use Rattle.minplus.specs.Step.Paths.{ArePaths, AreSteps}
use Rattle.minplus.specs.Step.PivotStage.{PivotStage}
use Rattle.minplus.proofs.Numbers.{small_there}
use Rattle.minplus.proofs.ClosedFurther.{AreEntries, bounds_further, closed_further}
use Rattle.minplus.proofs.PathLengths.{path_small, paths_further}

-- the greatest weight of an edge
abbrev end_limit : ℕ
end_limit = unsigned_abs END_LIMIT

-- paths over all events of a matrix are small
fits : (events : ℕ) → events ≤ MAX_MATRIX_EVENTS → (events + 1) * end_limit < 2 ^ 61
fits events few = omega arith

-- an entry that was improved is a small number, or absent
held_further : (steps old new : Entries) (event : ℕ) → AreSteps END_LIMIT steps → event + 1 ≤ MAX_MATRIX_EVENTS → AreEntries old → IsThrough event old new → ArePaths steps (event + 1) new → AreEntries new
held_further steps old new event small few held through paths from to =
    elim (through.made from to) [
      | inl same ↦ subst IsEntry (sym same) (held from to)
      | inr sum ↦
          let first = small_there _ (held from event) sum.0 in
          let second = small_there _ (held event to) sum.1 in
          let is : new from to ≡ old from event +ℤ old event to = sum.2 in
          let there : IsPresent (new from to) = omega (arith, ints) in
          inr (path_small steps (event + 1) end_limit from to (new from to) (fits (event + 1) few) small (paths from to there))
    ]

edges_further : (net : Net) (old new : Entries) → ((from to : ℕ) → new from to ≤ℤ old from to) → HoldsEdges net old → HoldsEdges net new
edges_further net old new falls edges name e always is =
    let held : IsEdgeHeld net.events old e = edges name e always is in
    let longer : old e.from.0 e.to.0 ≤ℤ e.weight = held.longer in
    let fall : new e.from.0 e.to.0 ≤ℤ old e.from.0 e.to.0 = falls e.from.0 e.to.0 in
    record { from = held.from; to = held.to; small = held.small; longer = omega (arith, ints) }

-- the next stage, where no entry of the diagonal has become negative
pub stage_further : (net : Net) (steps old new : Entries) (event : ℕ) → event < net.events → net.events ≤ MAX_MATRIX_EVENTS → PivotStage net steps event old → IsThrough event old new
    → ((at : ℕ) → at < net.events → pos 0 ≤ℤ new at at) → PivotStage net steps (event + 1) new
stage_further net steps old new event below few stage through sound =
    let paths : ArePaths steps (event + 1) new = paths_further steps old new event
    (record { held = stage.held; falls = stage.falls; through = through; closed = stage.closed; diagonal = stage.diagonal event below; paths = stage.paths }) in
    record {
      small = stage.small;
      held = held_further steps old new event stage.small (omega arith) stage.held through paths;
      falls = λ from to.
          let first : new from to ≤ℤ old from to = through.falls from to in
          let second : old from to ≤ℤ steps from to = stage.falls from to in
          omega (arith, ints);
      closed = closed_further event old new stage.held through stage.closed (stage.diagonal event below);
      diagonal = λ at there.
          let low : pos 0 ≤ℤ new at at = sound at there in
          let fall : new at at ≤ℤ old at at = through.falls at at in
          let was : old at at ≡ pos 0 = stage.diagonal at there in
          omega (arith, ints);
      paths = paths;
      edges = edges_further net old new through.falls stage.edges;
      bounds = bounds_further net event old new through stage.bounds;
    }

-- the stage of all events
pub closure_at_end : (net : Net) (steps entries : Entries) → PivotStage net steps net.events entries → IsClosure net entries
closure_at_end net steps entries stage = record { held = stage.held; closed = stage.closed; diagonal = stage.diagonal; edges = stage.edges; bounds = stage.bounds }

nothing_twice : IsDistinct eqb []
unfolding IsDistinct
nothing_twice = tt

-- the always-edges alone, before the first event
pub stage_at_start : (net : Net) (rows : List (List ℤ)) → BoundSeparations net rows → HoldsEdges net (cells rows) → ((at : ℕ) → at < net.events → pos 0 ≤ℤ cells rows at at)
    → PivotStage net (cells rows) 0 (cells rows)
stage_at_start net rows bounds edges sound = record {
  small = bounds.small;
  held = bounds.held;
  falls = λ from to. omega (arith, ints);
  closed = λ over from to below. absurd (omega arith);
  diagonal = λ at there.
      let low : pos 0 ≤ℤ cells rows at at = sound at there in
      let high : cells rows at at ≤ℤ pos 0 = bounds.diagonal at there in
      omega (arith, ints);
  paths = λ from to there. record { over = []; path = (there, refl); below = tt; distinct = nothing_twice };
  edges = edges;
  bounds = bounds.bounds;
}
