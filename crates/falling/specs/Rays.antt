-- Gaps among values, and the events beyond a gap.
use Rattle.std.specs.Prelude.{◌≡◌, ◌⊎◌, ℕ, ℤ, pos, ◌+ℤ◌, ◌≤ℤ◌, ◌<ℤ◌, Bool, true, false, List, All, Some, slice_get}
use Rattle.itv_base.specs.declared.names.EventId.{EventId}
use Rattle.event_graph.specs.Times.{time_of}

-- each event of a set comes later by more than a width than each other event
abbrev pub IsApartBy : ℕ → List Bool → List ℤ → Type 0
IsApartBy width set times = (low high : EventId) → slice_get set low.0 ≡ Some false → slice_get set high.0 ≡ Some true
    → (time_of times low +ℤ pos width) <ℤ time_of times high

-- each value is at most a level, or beyond it by more than a width
abbrev pub IsGapAt : ℤ → ℤ → List ℤ → Type 0
IsGapAt width level values = All (λ (value : ℤ). (value ≤ℤ level) ⊎ ((level +ℤ width) <ℤ value)) values
