-- Raised times, and what a ray shows.
use Rattle.std.proofs.Common.{◌≡◌, ◌+◌, ◌<◌, ℕ, zero, suc, ℤ, pos, unsigned_abs, ◌+ℤ◌, ◌-ℤ◌, ◌≤ℤ◌, Bool, true, false, List, [], ◌∷◌, length, get_or, Some, slice_get, sym, ap, ◌∙◌, refl, arith, ◌⊎◌, inl, inr}
use Rattle.std.proofs.lemmas.Int.{ints}
use Rattle.std.proofs.lemmas.Option.{same_Some, slice_get_within}
use Rattle.itv_base.specs.declared.names.EventId.{EventId}
use Rattle.itv_base.proofs.Integers.{at_most_abs}
use Rattle.event_graph.specs.Times.{raised, separation, time_of}
use Rattle.event_graph.specs.Laws.{RayIsUnbounded}

pub length-raised : (set : List Bool) (by : ℕ) (times : List ℤ) → length (raised set by times) ≡ length times
length-raised [] by times = refl
length-raised (is_in ∷ set) by [] = refl
length-raised (is_in ∷ set) by (time ∷ times) = ap suc (length-raised set by times)

-- an event of the set is raised
pub get_or-raised_in : (set : List Bool) (by : ℕ) (times : List ℤ) (k : ℕ) → slice_get set k ≡ Some true → k < length times
    → get_or (raised set by times) k (pos 0) ≡ get_or times k (pos 0) +ℤ pos by
get_or-raised_in [] by times k here within = absurd (cc)
get_or-raised_in (is_in ∷ set) by [] k here within = absurd (omega arith)
get_or-raised_in (is_in ∷ set) by (time ∷ times) zero here within = rw (same_Some is_in true here) refl
get_or-raised_in (is_in ∷ set) by (time ∷ times) (suc k) here within = get_or-raised_in set by times k here (omega arith)

-- another event stays
pub get_or-raised_out : (set : List Bool) (by : ℕ) (times : List ℤ) (k : ℕ) → slice_get set k ≡ Some false
    → get_or (raised set by times) k (pos 0) ≡ get_or times k (pos 0)
get_or-raised_out [] by times k here = refl
get_or-raised_out (is_in ∷ set) by [] k here = refl
get_or-raised_out (is_in ∷ set) by (time ∷ times) zero here = rw (same_Some is_in false here) refl
get_or-raised_out (is_in ∷ set) by (time ∷ times) (suc k) here = get_or-raised_out set by times k here

-- raising the set raises the separation by as much
pub separation-raised : (set : List Bool) (by : ℕ) (times : List ℤ) (from to : EventId) → slice_get set from.0 ≡ Some false → slice_get set to.0 ≡ Some true
    → to.0 < length times → separation (raised set by times) from to ≡ separation times from to +ℤ pos by
separation-raised set by times from to lacks holds within =
    let at_from : time_of (raised set by times) from ≡ time_of times from = get_or-raised_out set by times from.0 lacks in
    let at_to : time_of (raised set by times) to ≡ time_of times to +ℤ pos by = get_or-raised_in set by times to.0 holds within in
    rw (at_from, at_to) (omega (arith, ints))

pub ray_is_unbounded : RayIsUnbounded
ray_is_unbounded net from to times set ray value =
    let by : ℕ = unsigned_abs (value -ℤ separation times from to) + 1 in
    let whole : length times ≡ length set = (sym (length-raised set 0 times) ∙ (ray.satisfies 0).count) ∙ sym ray.count in
    let within : to.0 < length times = omega (arith, slice_get_within set to.0 true ray.holds) in
    let reached : separation (raised set by times) from to ≡ separation times from to +ℤ pos by = separation-raised set by times from to ray.lacks ray.holds within in
    let most : (value -ℤ separation times from to) ≤ℤ pos (unsigned_abs (value -ℤ separation times from to)) = at_most_abs _ in
    (raised set by times, ray.satisfies by, rw reached (omega (arith, ints)))

pub raised_at : (set : List Bool) (by : ℕ) (times : List ℤ) (k : ℕ) (d : ℤ) → k < length times
    → (get_or (raised set by times) k d ≡ get_or times k d) ⊎ (get_or (raised set by times) k d ≡ get_or times k d +ℤ pos by)
raised_at [] by times k d h = inl refl
raised_at (is_in ∷ set) by [] k d h = absurd (omega arith)
raised_at (true ∷ set) by (time ∷ times) zero d h = inr refl
raised_at (false ∷ set) by (time ∷ times) zero d h = inl refl
raised_at (is_in ∷ set) by (time ∷ times) (suc k) d h = raised_at set by times k d (omega arith)
