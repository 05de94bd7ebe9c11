-- Splits that a search needs.
use Rattle.std.specs.Prelude.{◌≡◌, ℕ, ℤ, ◌<ℤ◌, List, Contains}
use Rattle.itv_base.specs.declared.names.EdgeName.{EdgeName}
use Rattle.itv_base.specs.declared.names.EventId.{EventId}
use Rattle.event_graph.specs.Bounds.{IsGreatestAmong}
use Rattle.event_graph.specs.Network.{Net}
use Rattle.event_graph.specs.Proof.{Case, Path, ProofLine, path_sum}
use Rattle.event_graph.specs.Satisfying.{Breaks}
use Rattle.event_graph.specs.Times.{separation}
use Rattle.event_graph.specs.Usable.{MeetsUsable}

-- some times that meet the usable edges of the case break the constraint
abbrev pub IsNeededToFind : Net → List ProofLine → Case → ℕ → Type 0
IsNeededToFind net before chosen number = (times : List ℤ) × MeetsUsable net chosen times × Breaks times net number

-- a separation is greater than the separation of the known times, and greater than the sum of each path in the lines before
pub record IsBeyondKnown (net : Net) (known : ℤ) (before : List ProofLine) (value : ℤ) : Type 0 where
  pub known_times : known <ℤ value
  pub paths : (names : List EdgeName) → Contains before (Path names) → path_sum net names <ℤ value

-- The bound is not yet shown in the case: some times that meet the usable edges go beyond all that was attained before. If those edges allow a
-- greatest separation, some times that attain it break the constraint.
pub record IsNeededToBound (net : Net) (from to : EventId) (known : ℤ) (before : List ProofLine) (chosen : Case) (number : ℕ) : Type 0 where
  pub beyond : (times : List ℤ) × MeetsUsable net chosen times × IsBeyondKnown net known before (separation times from to)
  pub broken : (greatest : ℤ) → IsGreatestAmong (λ times. MeetsUsable net chosen times) from to greatest
      → (times : List ℤ) × MeetsUsable net chosen times × (separation times from to ≡ greatest) × Breaks times net number
