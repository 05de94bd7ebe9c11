-- Gaps between times.
use Rattle.std.specs.Prelude.{◌≡◌, ◌⊎◌, ℕ, ℤ, pos, neg_ℤ, ◌+ℤ◌, ◌-ℤ◌, ◌≤ℤ◌, ◌<ℤ◌, List, map, All, int_le, if◌then◌else◌}
use Rattle.itv_base.specs.declared.names.EventId.{EventId}
use Rattle.event_graph.specs.Network.{Net}
use Rattle.event_graph.specs.Satisfying.{Satisfies}
use Rattle.event_graph.specs.Times.{separation, time_of}
use Rattle.falling.specs.Cap.{cap, far_line}

-- two values more than a width apart, and no time lies between them
pub record IsGapBeyond (width : ℕ) (times : List ℤ) (lower upper : ℤ) : Type 0 where
  pub wide : (lower +ℤ pos width) <ℤ upper
  pub empty : All (λ (time : ℤ). (time ≤ℤ lower) ⊎ (upper ≤ℤ time)) times

-- the times with the gap made another number: the times from its upper value on are moved
abbrev pub with_gap : List ℤ → ℤ → ℤ → ℤ → List ℤ
with_gap times lower upper gap = map (λ time. if int_le upper time then time +ℤ (gap -ℤ (upper -ℤ lower)) else time) times

-- times that satisfy, with an event at 0 and no time above the cap
pub record IsWithinCap (net : Net) (from : EventId) (times : List ℤ) : Type 0 where
  pub satisfies : Satisfies times net
  pub source : time_of times from ≡ pos 0
  pub most : All (λ (time : ℤ). time ≤ℤ pos (cap net)) times

-- some times within the cap have this separation, or a separation of at least the far line
abbrev pub HasWithinCap : Net → EventId → EventId → ℤ → Type 0
HasWithinCap net from to value =
    (times : List ℤ) × IsWithinCap net from times × ((separation times from to ≡ value) ⊎ (pos (far_line net) ≤ℤ separation times from to))

-- some times within the cap are not below minus the far line
abbrev pub HasNearSource : Net → EventId → Type 0
HasNearSource net from = (times : List ℤ) × IsWithinCap net from times × All (λ (time : ℤ). neg_ℤ (pos (far_line net)) ≤ℤ time) times
