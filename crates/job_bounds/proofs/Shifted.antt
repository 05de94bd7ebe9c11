-- Times with one number added to all of them, and some of them raised.
use Rattle.std.proofs.Common.{◌≡◌, ◌<◌, ◌+◌, ℕ, zero, suc, ℤ, pos, neg_ℤ, ◌+ℤ◌, ◌-ℤ◌, Bool, List, [], ◌∷◌, length, get_or, All, refl, sym, subst, ◌∙◌, arith}
use Rattle.std.proofs.Math.ListN.{set}
use Rattle.std.proofs.lemmas.Int.{ints}
use Rattle.std.proofs.lemmas.List.{get_or-map}
use Rattle.itv_base.specs.declared.names.EventId.{EventId}
use Rattle.branch.specs.Work.{IsClose}
use Rattle.branch.proofs.Close.{time_close}
use Rattle.event_graph.specs.Bounds.{IsRay}
use Rattle.event_graph.specs.Limits.{IsPrintedTime}
use Rattle.event_graph.specs.Network.{IsNet, Net}
use Rattle.event_graph.specs.Satisfying.{Satisfies}
use Rattle.event_graph.specs.Times.{IsTime, raised, separation, shifted, time_of}
use Rattle.event_graph.proofs.Moving.{raised-shifted}
use Rattle.event_graph.proofs.Shifting.{satisfies_same, length-shifted}
use Rattle.job_bounds.specs.Step.Witness.{AreNearby, IsNearby, IsShiftedTo}

-- ---- separations

pub time-shifted : (times : List ℤ) (by : ℤ) (event : EventId) → event.0 < length times → time_of (shifted times by) event ≡ time_of times event +ℤ by
time-shifted times by event in' = get_or-map (λ time. time +ℤ by) times event.0 (pos 0) (pos 0) in'

pub separation-shifted : (times : List ℤ) (by : ℤ) (from to : EventId) → from.0 < length times → to.0 < length times → separation times from to ≡ separation (shifted times by) from to
separation-shifted times by from to in_from in_to = rw (time-shifted times by from in_from, time-shifted times by to in_to) (omega (arith, ints))

-- the event whose time is taken from all times is at 0
pub at_zero : (times list : List ℤ) (origin : EventId) → origin.0 < length times → IsShiftedTo origin times list → time_of list origin ≡ pos 0
at_zero times list origin in' is = rw (is, time-shifted times (neg_ℤ (time_of times origin)) origin in') (omega (arith, ints))

-- times that satisfy still do when they are shifted
pub satisfies-shifted : (net : Net) (times : List ℤ) (by : ℤ) → IsNet net → Satisfies times net → Satisfies (shifted times by) net
satisfies-shifted net times by is_net h = satisfies_same net times (shifted times by) is_net (length-shifted times by ∙ h.count)
    (λ from to in_from in_to. separation-shifted times by from to (subst (λ n. from.0 < n) (sym h.count) in_from) (subst (λ n. to.0 < n) (sym h.count) in_to)) h

-- separations of close times are nearby
pub nearby_close : (times : List ℤ) → All IsClose times → AreNearby times
nearby_close times close from to in_from in_to =
    let a : IsClose (time_of times from) = close from.0 (pos 0) in_from in
    let b : IsClose (time_of times to) = close to.0 (pos 0) in_to in
    (omega (arith, ints, a.0, a.1, b.0, b.1), omega (arith, ints, a.0, a.1, b.0, b.1))

pub nearby-shifted : (times : List ℤ) (by : ℤ) → AreNearby times → AreNearby (shifted times by)
nearby-shifted times by near from to in_from in_to =
    let e : length (shifted times by) ≡ length times = length-shifted times by in
    let f : from.0 < length times = subst (λ n. from.0 < n) e in_from in
    let t : to.0 < length times = subst (λ n. to.0 < n) e in_to in
    subst IsNearby (separation-shifted times by from to f t) (near from to f t)

pub times_close : (times : List ℤ) → All IsClose times → All IsTime times
times_close times close = λ k d within. time_close (get_or times k d) (close k d within)

pub separation_close : (times : List ℤ) (from to : EventId) → All IsClose times → from.0 < length times → to.0 < length times → IsTime (separation times from to)
separation_close times from to close in_from in_to =
    let near : IsNearby (separation times from to) = nearby_close times close from to in_from in_to in
    (omega (arith, ints, near.0, near.1), omega (arith, ints, near.0, near.1))

-- nearby times may be printed, if one of them is 0
pub times_nearby : (times : List ℤ) (origin : EventId) → AreNearby times → origin.0 < length times → time_of times origin ≡ pos 0 → All IsPrintedTime times
times_nearby times origin near in' at k d within =
    let event : EventId = record { 0 = k } in
    let n : IsNearby (separation times origin event) = near origin event in' within in
    let e : get_or times k d ≡ time_of times event = get_or-default times k d within in
    rw e (from_zero (time_of times event) (time_of times origin) at n)
  where
    get_or-default : (times : List ℤ) (k : ℕ) (d : ℤ) → k < length times → get_or times k d ≡ get_or times k (pos 0)
    get_or-default [] k d h = absurd (omega arith)
    get_or-default (time ∷ times) zero d h = refl
    get_or-default (time ∷ times) (suc k) d h = get_or-default times k d (omega arith)

    from_zero : (time origin : ℤ) → origin ≡ pos 0 → IsNearby (time -ℤ origin) → IsPrintedTime time
    from_zero time origin at n = (omega (arith, ints, at, n.0, n.1), omega (arith, ints, at, n.0, n.1))

-- ---- raising

-- a ray is still a ray when its times are shifted
pub ray-shifted : (net : Net) (from to : EventId) (times : List ℤ) (set : List Bool) (by : ℤ) → IsNet net → IsRay net from to times set → IsRay net from to (shifted times by) set
ray-shifted net from to times set by is_net ray = record {
  count = ray.count;
  holds = ray.holds;
  lacks = ray.lacks;
  satisfies = λ n. subst (λ ts. Satisfies ts net) (sym (raised-shifted set n times by)) (satisfies-shifted net (raised set n times) by is_net (ray.satisfies n));
}
