-- What is kept of a search for a bound, and what this shows of the bound.
use Rattle.std.specs.Prelude.{◌≡◌, ◌<◌, ◌*◌, ℤ, pos, neg_ℤ, ◌≤ℤ◌, ◌<ℤ◌, Bool, List, All, Option, IfSome, IsSomeAnd, Some, None, length, option_map}
use Rattle.event_graph.specs.Bounds.{IsRay}
use Rattle.event_graph.specs.Network.{Net}
use Rattle.event_graph.specs.RootBound.{IsRootBound}
use Rattle.event_graph.specs.Satisfying.{Satisfies}
use Rattle.event_graph.specs.Times.{separation, shifted, time_of}
use Rattle.itv_base.specs.declared.names.EventId.{EventId}
use Rattle.event_graph.specs.Limits.{IsPrintedTime, IsReach, reach_limit}
use Rattle.branch.specs.Work.{IsKnownReach}
use Rattle.requirements.specs.declared.bound.Bound.{Bound}
use Rattle.requirements.specs.declared.bound.Bound.TheVariants as bounds
use Rattle.slack_report.specs.declared.words.Which.{Which}
use Rattle.slack_report.specs.declared.words.Which.TheVariants as sorts
use Rattle.event_graph.specs.declared.pair.Pair.{Pair}
use Rattle.job_bounds.specs.declared.bound_witness.BoundWitness.{BoundWitness}

-- the pair whose greatest separation gives a bound of a pair: for the greatest bound the pair itself, for the least bound the reversed one
abbrev pub searched_pair : Which → Pair → Pair
searched_pair sorts.Max pair = pair
searched_pair sorts.Min pair = record { from = pair.to; to = pair.from }

-- a separation of times that a search left: its absolute value is at most nine times the reach of a path
abbrev pub IsNearby : ℤ → Type 0
IsNearby value = (neg_ℤ (pos (9 * reach_limit)) ≤ℤ value) × (value ≤ℤ pos (9 * reach_limit))

-- each separation of two events in these times is nearby
abbrev pub AreNearby : List ℤ → Type 0
AreNearby times = (from to : EventId) → from.0 < length times → to.0 < length times → IsNearby (separation times from to)

-- the times, each less the time of event `origin`
abbrev pub IsShiftedTo : EventId → List ℤ → List ℤ → Type 0
IsShiftedTo origin times list = list ≡ shifted times (neg_ℤ (time_of times origin))

-- there is a time and a flag for each event
pub record IsRoomFor (net : Net) (kept : BoundWitness) : Type 0 where
  pub times : length kept.times.items ≡ net.events
  pub set : length kept.set.items ≡ net.events

-- the times attain a bound that is closed or within; times and set show one that is unbounded
abbrev pub Attain : Net → Pair → Which → Bound → List ℤ → List Bool → Type 0
Attain net pair which (bounds.Closed value) times set = separation times pair.from pair.to ≡ value
Attain net pair which bounds.Unbounded times set = IsRay net (searched_pair which pair).from (searched_pair which pair).to times set
Attain net pair which (bounds.Within limit attained) times set = IsSomeAnd attained (λ value. separation times pair.from pair.to ≡ value)

-- times and a set of events that show a bound of a pair: the times satisfy, the from-event is at 0, and the separation of the searched pair is not
-- below the least that known times can have
pub record IsWitness (net : Net) (pair : Pair) (which : Which) (value : Bound) (times : List ℤ) (set : List Bool) : Type 0 where
  pub from : pair.from.0 < net.events
  pub satisfied : Satisfies times net
  pub at_zero : time_of times pair.from ≡ pos 0
  pub nearby : AreNearby times
  pub reached : IsKnownReach (separation times (searched_pair which pair).from (searched_pair which pair).to)
  pub attain : Attain net pair which value times set

-- a bound has a found value, unless the budget ended before the search found any
abbrev pub HasFoundValue : Bound → Type 0
HasFoundValue (bounds.Closed value) = Unit {0}
HasFoundValue bounds.Unbounded = Unit {0}
HasFoundValue (bounds.Within limit None) = ⊥
HasFoundValue (bounds.Within limit (Some found)) = Unit {0}

-- the root bound of the searched pair, as a limit of a bound of the pair
abbrev pub IsLimitOf : Net → Pair → Which → Option ℤ → Type 0
IsLimitOf net pair sorts.Max limit = IsRootBound net pair.from pair.to limit
IsLimitOf net pair sorts.Min limit = IsRootBound net pair.to pair.from (option_map neg_ℤ limit)

-- a bound of which only the limit is known; the limit is within the reach of a path
pub record IsOpenBound (net : Net) (pair : Pair) (which : Which) (value : Bound) : Type 0 where
  pub limit : Option ℤ
  pub is_open : value ≡ bounds.Within limit None
  pub is_limit : IsLimitOf net pair which limit
  pub within : IfSome limit IsReach

-- ---- past the end of a range

-- a separation of a pair, as the separation of its searched pair
abbrev pub number_on : Which → ℤ → ℤ
number_on sorts.Max value = value
number_on sorts.Min value = neg_ℤ value

-- a bound goes past a limit: it is unbounded, or the value that it attains is past the limit; both count as separations of the searched pair
abbrev pub IsBeyond : Which → Bound → ℤ → Type 0
IsBeyond which (bounds.Closed value) limit = limit <ℤ number_on which value
IsBeyond which bounds.Unbounded limit = Unit {0}
IsBeyond which (bounds.Within upper attained) limit = IsSomeAnd attained (λ value. limit <ℤ number_on which value)

-- times that may be printed: they satisfy, the from-event is at 0, and the separation of the searched pair is past a limit
pub record ArePast (net : Net) (pair : Pair) (which : Which) (limit : ℤ) (times : List ℤ) : Type 0 where
  pub satisfied : Satisfies times net
  pub at_zero : time_of times pair.from ≡ pos 0
  pub within : All IsPrintedTime times
  pub past : limit <ℤ separation times (searched_pair which pair).from (searched_pair which pair).to
