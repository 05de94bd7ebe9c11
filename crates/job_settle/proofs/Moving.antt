-- How large moved times are.
use Rattle.std.proofs.Common.{◌≡◌, ◌<◌, ℤ, pos, neg_ℤ, ◌+ℤ◌, ◌-ℤ◌, List, length, All, arith}
use Rattle.std.proofs.lemmas.Int.{ints}
use Rattle.std.proofs.lemmas.List.Elements.{All-weaker}
use Rattle.itv_base.specs.declared.names.EventId.{EventId}
use Rattle.event_graph.specs.Limits.{IsPrintedTime}
use Rattle.event_graph.specs.Times.{IsTime, moved, separation, time_of}
use Rattle.event_graph.proofs.Sizes.{printed_time}
use Rattle.falling.proofs.Negating.{all_map}
use Rattle.falling.specs.Cap.{IsNearValue}
use Rattle.job_settle.specs.Step.{IsNearTime}

pub nearby-moved : (origin : EventId) (times : List ℤ) → origin.0 < length times → All IsNearValue times → All IsNearTime (moved origin times)
nearby-moved origin times within near =
    let at : IsNearValue (time_of times origin) = near origin.0 (pos 0) within in
    all_map (λ (time : ℤ). time +ℤ neg_ℤ (time_of times origin)) IsNearValue IsNearTime times
    (λ value h. (omega (arith, ints, h.0, h.1, at.0, at.1), omega (arith, ints, h.0, h.1, at.0, at.1))) near

nearby_printed : (time : ℤ) → IsNearTime time → IsPrintedTime time
nearby_printed time h = (omega (arith, ints, h.0, h.1), omega (arith, ints, h.0, h.1))

pub nearby_times : (times : List ℤ) → All IsNearTime times → All IsPrintedTime times
nearby_times times nearby = All-weaker IsNearTime IsPrintedTime nearby_printed times nearby

pub printed_times : (times : List ℤ) → All IsPrintedTime times → All IsTime times
printed_times times printed = All-weaker IsPrintedTime IsTime printed_time times printed

-- two near times are a time apart
pub separation_near : (from to : EventId) (times : List ℤ) (value : ℤ) → from.0 < length times → to.0 < length times → All IsNearValue times → separation times from to ≡ value → IsTime value
separation_near from to times value in_from in_to near e =
    let a : IsNearValue (time_of times from) = near from.0 (pos 0) in_from in
    let b : IsNearValue (time_of times to) = near to.0 (pos 0) in_to in
    apart (time_of times from) (time_of times to) value a b e
  where
    apart : (a b value : ℤ) → IsNearValue a → IsNearValue b → (b -ℤ a) ≡ value → IsTime value
    apart a b value na nb e = (omega (arith, ints, na.0, na.1, nb.0, nb.1, e), omega (arith, ints, na.0, na.1, nb.0, nb.1, e))
