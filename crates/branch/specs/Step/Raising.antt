-- Raising a set of events above all others.
use Rattle.std.specs.Prelude.{◌≡◌, ◌*◌, ℕ, ℤ, pos, neg_ℤ, ◌+ℤ◌, ◌≤ℤ◌, ◌<ℤ◌, Bool, true, false, List, All, Some, slice_get}
use Rattle.itv_base.specs.declared.names.EventId.{EventId}
use Rattle.event_graph.specs.Times.{IsTime, raised, separation, time_of}
use Rattle.event_graph.specs.Limits.{reach_limit, weight_limit}
use Rattle.branch.specs.Work.{IsClose}

-- a number of picoseconds within three times the reach of a path, as each separation of timely times is
abbrev pub IsNearSeparation : ℤ → Type 0
IsNearSeparation value = (neg_ℤ (pos (3 * reach_limit)) ≤ℤ value) × (value ≤ℤ pos (3 * reach_limit))

-- each event of the set is above each other event by more than the limit of ends
abbrev pub IsRaisedApart : List Bool → List ℤ → Type 0
IsRaisedApart set times = (low high : EventId) → slice_get set low.0 ≡ Some false → slice_get set high.0 ≡ Some true
    → (time_of times low +ℤ pos weight_limit) <ℤ time_of times high

-- the time of an event after the rise, by its flag
abbrev pub raised_to : Bool → ℤ → ℕ → ℤ
raised_to true time by = time +ℤ pos by
raised_to false time by = time

-- if the set is raised by this number, its events are above each other event by more than the limit of ends
abbrev pub IsGap : List Bool → List ℤ → ℤ → Type 0
IsGap set times by = (low high : EventId) → slice_get set low.0 ≡ Some false → slice_get set high.0 ≡ Some true
    → (time_of times low +ℤ pos weight_limit) <ℤ (time_of times high +ℤ by)

-- the new times are the old ones with the set raised by one number; the set is then apart, and the separation of the pair is at least `reach`
pub record AreRaised (set : List Bool) (from to : EventId) (reach : ℤ) (old new : List ℤ) : Type 0 where
  pub by : ℕ
  pub same : new ≡ raised set by old
  pub apart : IsRaisedApart set new
  pub reached : reach ≤ℤ separation new from to
  pub times : All IsTime new
  pub close : All IsClose new

-- a number that is enough to raise the set by
pub record IsRise (set : List Bool) (from to : EventId) (reach : ℤ) (times : List ℤ) (by : ℤ) : Type 0 where
  pub low : pos 0 ≤ℤ by
  pub high : by ≤ℤ pos (6 * reach_limit)
  pub gap : IsGap set times by
  pub reached : reach ≤ℤ (separation times from to +ℤ by)
