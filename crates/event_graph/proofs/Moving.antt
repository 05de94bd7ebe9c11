-- Times less the time of one event.
use Rattle.std.proofs.Common.{◌≡◌, ◌<◌, ℕ, ℤ, pos, neg_ℤ, ◌+ℤ◌, Bool, true, false, List, [], ◌∷◌, length, refl, sym, subst, ap, arith}
use Rattle.std.proofs.lemmas.Int.{ints}
use Rattle.std.proofs.lemmas.List.{get_or-map, length-map}
use Rattle.itv_base.specs.declared.names.EventId.{EventId}
use Rattle.event_graph.specs.Bounds.{IsRay}
use Rattle.event_graph.specs.Network.{IsNet, Net}
use Rattle.event_graph.specs.Satisfying.{Satisfies}
use Rattle.event_graph.specs.Times.{moved, raised, separation, shifted, time_of}
use Rattle.event_graph.proofs.Shifting.{shift_keeps_satisfying}

pub length-moved : (origin : EventId) (times : List ℤ) → length (moved origin times) ≡ length times
length-moved origin times = length-map times (λ time. time +ℤ neg_ℤ (time_of times origin))

pub time-moved : (origin event : EventId) (times : List ℤ) → event.0 < length times → time_of (moved origin times) event ≡ time_of times event +ℤ neg_ℤ (time_of times origin)
time-moved origin event times within = get_or-map (λ time. time +ℤ neg_ℤ (time_of times origin)) times event.0 (pos 0) (pos 0) within

pub zero-moved : (origin : EventId) (times : List ℤ) → origin.0 < length times → time_of (moved origin times) origin ≡ pos 0
zero-moved origin times within = rw (time-moved origin origin times within) (omega (arith, ints))

pub separation-moved : (origin from to : EventId) (times : List ℤ) → from.0 < length times → to.0 < length times → separation (moved origin times) from to ≡ separation times from to
separation-moved origin from to times in_from in_to = rw (time-moved origin from times in_from, time-moved origin to times in_to) (omega (arith, ints))

pub satisfies-moved : (net : Net) (origin : EventId) (times : List ℤ) → IsNet net → Satisfies times net → Satisfies (moved origin times) net
satisfies-moved net origin times is_net satisfied = (shift_keeps_satisfying net times (neg_ℤ (time_of times origin)) is_net).0 satisfied

pub raised-shifted : (set : List Bool) (n : ℕ) (times : List ℤ) (by : ℤ) → raised set n (shifted times by) ≡ shifted (raised set n times) by
raised-shifted [] n times by = refl
raised-shifted (is_in ∷ set) n [] by = refl
raised-shifted (true ∷ set) n (time ∷ times) by = cons_eq ((time +ℤ by) +ℤ pos n) ((time +ℤ pos n) +ℤ by) _ _ (omega (arith, ints)) (raised-shifted set n times by)
  where
    cons_eq : (a b : ℤ) (xs ys : List ℤ) → a ≡ b → xs ≡ ys → a ∷ xs ≡ b ∷ ys
    cons_eq a b xs ys e f = cc (e, f)
raised-shifted (false ∷ set) n (time ∷ times) by = ap (λ ts. (time +ℤ by) ∷ ts) (raised-shifted set n times by)

-- if times and a set are a ray, so are the moved times and the set
pub ray-moved : (net : Net) (origin from to : EventId) (times : List ℤ) (set : List Bool) → IsNet net → IsRay net from to times set → IsRay net from to (moved origin times) set
ray-moved net origin from to times set is_net ray = record {
  count = ray.count;
  holds = ray.holds;
  lacks = ray.lacks;
  satisfies = λ n. subst (λ ts. Satisfies ts net) (sym (raised-shifted set n times (neg_ℤ (time_of times origin))))
      ((shift_keeps_satisfying net (raised set n times) (neg_ℤ (time_of times origin)) is_net).0 (ray.satisfies n));
}
