-- What is found of a pair of events on a side.
use Rattle.std.proofs.Common.{◌≡◌, ℤ, neg_ℤ, ◌-ℤ◌, ◌≤ℤ◌, ◌<ℤ◌, Bool, true, false, List, arith}
use Rattle.std.proofs.lemmas.Int.{ints}
use Rattle.itv_base.proofs.Integers.{le_from_no_test, lt_from_test}
use Rattle.itv_base.specs.declared.names.EventId.{EventId}
use Rattle.itv_base.specs.declared.names.Side.{Side}
use Rattle.itv_base.specs.declared.names.Side.TheVariants.{Lower, Upper}
use Rattle.event_graph.specs.Bounds.{IsUnbounded}
use Rattle.event_graph.specs.Network.{Net}
use Rattle.event_graph.specs.Times.{IsTime, time_of}
use Rattle.event_graph.proofs.Rays.{ray_is_unbounded}
use Rattle.extremes.specs.Found.{CanRise, IsAttainedBy}
use Rattle.longer_runs.specs.Always.{IsExtreme, IsNotPast}
use Rattle.longer_runs.specs.Windows.{EverySeparation}
use Rattle.steady.specs.Extremes.{IsAttainedExtreme, is_past}

pub closed_upper : (net : Net) (from to : EventId) (value : ℤ) (times : List ℤ) → IsAttainedBy net from to value times → IsAttainedExtreme Upper net from to value times
closed_upper net from to value times h = record { extreme = h.greatest; satisfied = h.satisfies; attained = h.attains; within = h.value_within }

turned : (a b value other : ℤ) → other ≡ neg_ℤ value → (b -ℤ a) ≡ value → (a -ℤ b) ≡ other
turned a b value other is e = omega (arith, ints)

above : (a b value other : ℤ) → other ≡ neg_ℤ value → (b -ℤ a) ≤ℤ value → other ≤ℤ (a -ℤ b)
above a b value other is h = omega (arith, ints)

minus_time : (value other : ℤ) → other ≡ neg_ℤ value → IsTime value → IsTime other
minus_time value other is (low, high) = (omega (arith, ints, is, high), omega (arith, ints, is, low))

pub closed_lower : (net : Net) (from to : EventId) (value other : ℤ) (times : List ℤ) → other ≡ neg_ℤ value → IsAttainedBy net from to value times → IsAttainedExtreme Lower net to from other times
closed_lower net from to value other times is h = record {
  extreme = record {
    attained = (times, h.satisfies, turned (time_of times from) (time_of times to) value other is h.attains);
    least = λ others sat. above (time_of others from) (time_of others to) value other is (h.greatest.most others sat);
  };
  satisfied = h.satisfies;
  attained = turned (time_of times from) (time_of times to) value other is h.attains;
  within = minus_time value other is h.value_within;
}

pub rising_unbounded : (net : Net) (from to : EventId) (set : List Bool) → CanRise net from to set → IsUnbounded net from to
rising_unbounded net from to set h = ray_is_unbounded net from to h.0 set h.2

-- ---- numbers past others

-- no separation is past a greatest or least one
pub none_past : (side : Side) (net : Net) (from to : EventId) (value : ℤ) → IsExtreme side net from to value → EverySeparation (IsNotPast side value) net from to
none_past Upper net from to value h = h.most
none_past Lower net from to value h = h.least

-- what is not past a number is not past one that is past it
pub not_past_further : (side : Side) (value other apart : ℤ) → is_past side value other ≡ true → IsNotPast side value apart → IsNotPast side other apart
not_past_further Upper value other apart past h = let less : value <ℤ other = lt_from_test value other past in omega (arith, ints, less, h)
not_past_further Lower value other apart past h = let less : other <ℤ value = lt_from_test other value past in omega (arith, ints, less, h)

-- what is not past a number is not past one before which it is not
pub not_past_before : (side : Side) (value other apart : ℤ) → is_past side value other ≡ false → IsNotPast side other apart → IsNotPast side value apart
not_past_before Upper value other apart past h = let most : other ≤ℤ value = le_from_no_test value other past in omega (arith, ints, most, h)
not_past_before Lower value other apart past h = let least : value ≤ℤ other = le_from_no_test other value past in omega (arith, ints, least, h)
