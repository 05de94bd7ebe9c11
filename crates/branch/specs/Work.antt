-- The working memory of the searches, as its callers see it.
use Rattle.std.specs.Prelude.{◌≡◌, ◌≤◌, ◌*◌, ℕ, ℤ, pos, neg_ℤ, ◌≤ℤ◌, Bool, List, [], length, Option, unwrap_or}
use Rattle.itv_base.specs.declared.names.EventId.{EventId}
use Rattle.event_graph.specs.Network.{IsNet, Net}
use Rattle.event_graph.specs.Times.{separation}
use Rattle.event_graph.specs.Limits.{reach_limit}
use Rattle.diff_bounds.specs.Standing.{BoundsView}
use Rattle.diff_bounds.specs.Standing.{IsMadeFor as IsBoundsFor}
use Rattle.branch.specs.Splits.{AreSplits, SplittableView}
use Rattle.branch.specs.declared.work.TheConstants.{MAX_START}

-- The bounds, for how many constraints there is room, the constraints that can be split, and the known times, if there are any. Then what the
-- last search left: the times and the events to raise of a search for a bound, and how many cases were closed.
pub record WorkView : Type 0 where
  pub bounds : BoundsView
  pub room : ℕ
  pub splits : List SplittableView
  pub known : Option (List ℤ)
  pub times : List ℤ
  pub ray : List Bool
  pub leaves : ℕ

-- the memory was made for a network
pub record IsMadeFor (net : Net) (work : WorkView) : Type 0 where
  pub is_net : IsNet net
  pub bounds : IsBoundsFor net work.bounds
  pub room : length net.constraints ≤ work.room
  pub splits : AreSplits net work.splits
  pub places : length work.times ≡ net.events

-- a time that bounds give, or one that was raised: at the earliest the reach of a path before 0, at the latest eight times that reach
abbrev pub IsClose : ℤ → Type 0
IsClose time = (neg_ℤ (pos reach_limit) ≤ℤ time) × (time ≤ℤ pos (8 * reach_limit))

-- a separation is no less than a separation of known times can be; bounds give the known times
abbrev pub IsKnownReach : ℤ → Type 0
IsKnownReach value = neg_ℤ (pos (3 * reach_limit)) ≤ℤ value

-- a search may start from times with this separation
abbrev pub IsStart : ℤ → Type 0
IsStart value = (neg_ℤ MAX_START ≤ℤ value) × (value ≤ℤ MAX_START)

-- the separation of a pair in the known times
abbrev pub known_separation : WorkView → EventId → EventId → ℤ
known_separation work from to = separation (unwrap_or work.known []) from to
