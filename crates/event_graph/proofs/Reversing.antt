-- The least separation of a pair and the greatest separation of the reversed pair.
use Rattle.std.proofs.Common.{◌≡◌, ℤ, neg_ℤ, ◌-ℤ◌, ◌≤ℤ◌, arith}
use Rattle.std.proofs.lemmas.Int.{ints}
use Rattle.event_graph.specs.Times.{time_of}
use Rattle.event_graph.specs.Laws.{LeastIsReversedGreatest}

negated_value : (a b value : ℤ) → (b -ℤ a) ≡ value → (a -ℤ b) ≡ neg_ℤ value
negated_value a b value e = omega (arith, ints)

value_of_negated : (a b value : ℤ) → (a -ℤ b) ≡ neg_ℤ value → (b -ℤ a) ≡ value
value_of_negated a b value e = omega (arith, ints)

below_negated : (a b value : ℤ) → value ≤ℤ (b -ℤ a) → (a -ℤ b) ≤ℤ neg_ℤ value
below_negated a b value h = omega (arith, ints)

pub above_value : (a b value : ℤ) → (a -ℤ b) ≤ℤ neg_ℤ value → value ≤ℤ (b -ℤ a)
above_value a b value h = omega (arith, ints)

pub least_is_reversed_greatest : LeastIsReversedGreatest
least_is_reversed_greatest net from to value = (
  (λ least. record {
    attained = (least.attained.0, least.attained.1, negated_value (time_of least.attained.0 from) (time_of least.attained.0 to) value least.attained.2);
    most = λ times h. below_negated (time_of times from) (time_of times to) value (least.least times h);
  }),
  (λ greatest. record {
    attained = (greatest.attained.0, greatest.attained.1, value_of_negated (time_of greatest.attained.0 from) (time_of greatest.attained.0 to) value greatest.attained.2);
    least = λ times h. above_value (time_of times from) (time_of times to) value (greatest.most times h);
  }),
)
