-- What slacks say by right bounds.
use Rattle.std.proofs.Common.{◌≡◌, ℤ, ◌+ℤ◌, ◌-ℤ◌, Option, Some, None, subst, arith}
use Rattle.std.specs.Prelude.{IsSome, IsSomeAnd}
use Rattle.std.proofs.lemmas.Int.{ints}
use Rattle.itv_base.specs.declared.names.EventId.{EventId}
use Rattle.event_graph.specs.Network.{Net}
use Rattle.event_graph.specs.Bounds.{IsGreatest, IsLeast}
use Rattle.requirements.specs.declared.bound.Bound.{Bound}
use Rattle.requirements.specs.declared.bound.Bound.TheVariants.{Closed, Unbounded, Within}
use Rattle.requirements.specs.Bounds.{IsGreatestBound, IsLeastBound}
use Rattle.requirements.specs.Slacks.{high_slack, low_slack}
use Rattle.requirements.specs.Laws.{ClosedHighHasSlack, ClosedLowHasSlack, HighSlackIsDistance, LowSlackIsDistance}

some_is : (a b : ℤ) → Some a ≡ Some b → a ≡ b
some_is a b e = cc

low_value : (low value slack : ℤ) → (value -ℤ low) ≡ slack → value ≡ low +ℤ slack
low_value low value slack e = omega (arith, ints)

high_value : (high value slack : ℤ) → (high -ℤ value) ≡ slack → value ≡ high -ℤ slack
high_value high value slack e = omega (arith, ints)

module _ (net : Net) (from to : EventId) where
  low_distance : (low : Option ℤ) (least : Bound) (slack : ℤ) → IsLeastBound net from to least → low_slack low least ≡ Some slack
      → IsSomeAnd low (λ end. IsLeast net from to (end +ℤ slack))
  low_distance None least slack right is = absurd (cc)
  low_distance (Some low) (Closed value) slack right is =
      subst (IsLeast net from to) (low_value low value slack (some_is (value -ℤ low) slack is)) right
  low_distance (Some low) Unbounded slack right is = absurd (cc)
  low_distance (Some low) (Within limit attained) slack right is = absurd (cc)

  high_distance : (high : Option ℤ) (greatest : Bound) (slack : ℤ) → IsGreatestBound net from to greatest → high_slack high greatest ≡ Some slack
      → IsSomeAnd high (λ end. IsGreatest net from to (end -ℤ slack))
  high_distance None greatest slack right is = absurd (cc)
  high_distance (Some high) (Closed value) slack right is =
      subst (IsGreatest net from to) (high_value high value slack (some_is (high -ℤ value) slack is)) right
  high_distance (Some high) Unbounded slack right is = absurd (cc)
  high_distance (Some high) (Within limit attained) slack right is = absurd (cc)

low_told : (low : Option ℤ) (value : ℤ) → IsSome low → IsSome (low_slack low (Closed value))
low_told None value some = some
low_told (Some low) value some = some

high_told : (high : Option ℤ) (value : ℤ) → IsSome high → IsSome (high_slack high (Closed value))
high_told None value some = some
high_told (Some high) value some = some

pub low_slack_is_distance : LowSlackIsDistance
low_slack_is_distance net from to range least greatest slack right is = low_distance net from to range.low least slack right is

pub high_slack_is_distance : HighSlackIsDistance
high_slack_is_distance net from to range least greatest slack right is = high_distance net from to range.high greatest slack right is

pub closed_low_has_slack : ClosedLowHasSlack
closed_low_has_slack range value greatest some = low_told range.low value some

pub closed_high_has_slack : ClosedHighHasSlack
closed_high_has_slack range least value some = high_told range.high value some
