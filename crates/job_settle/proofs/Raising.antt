-- Times that are raised past a limit.
use Rattle.std.proofs.Common.{◌≡◌, ◌<◌, ◌+◌, ◌*◌, ◌⊎◌, ℕ, zero, suc, ℤ, pos, neg_ℤ, ◌+ℤ◌, ◌-ℤ◌, ◌≤ℤ◌, ◌<ℤ◌, Bool, true, false, List, length, get_or, All, Some, slice_get, sym, subst, ap, ◌∙◌, inl, inr, arith}
use Rattle.std.proofs.lemmas.Int.{ints}
use Rattle.itv_base.specs.Range.{IsEnd}
use Rattle.itv_base.specs.declared.names.EventId.{EventId}
use Rattle.itv_base.proofs.Lists.{all_or}
use Rattle.event_graph.specs.Bounds.{IsRay}
use Rattle.event_graph.specs.Limits.{IsPrintedTime, weight_limit}
use Rattle.event_graph.specs.Network.{IsNet, Net}
use Rattle.event_graph.specs.Satisfying.{Satisfies}
use Rattle.event_graph.specs.Times.{IsTime, moved, raised, separation, time_of}
use Rattle.event_graph.proofs.Rays.{length-raised, separation-raised, raised_at}
use Rattle.event_graph.proofs.Moving.{length-moved, satisfies-moved, separation-moved, time-moved, zero-moved}
use Rattle.falling.specs.Cap.{cap_limit}
use Rattle.requirements.specs.Raising.{RaisesPast}
use Rattle.slack_report.specs.declared.words.Which.{Which}
use Rattle.slack_report.specs.declared.words.Which.TheVariants.{Max, Min}
use Rattle.drawn_networks.specs.Drawn.{IsRowOf}
use Rattle.drawn_networks.specs.declared.row.Row.{Row}
use Rattle.job_settle.specs.Answers.{CanRise, IsEndless}
use Rattle.job_settle.specs.Step.{ArePast, IsNearTime, source, target}

-- the greatest number that a set is raised by to pass an end
abbrev most_by : ℕ
most_by = 2 * cap_limit + weight_limit + 1

-- by how much the times are raised
raised_by : (old : List ℤ) (set : List Bool) (from to : EventId) (limit : ℤ) (new : List ℤ) (r : RaisesPast old set from to limit new) → IsNearTime (separation old from to)
    → IsEnd (Some limit) → slice_get set from.0 ≡ Some false → slice_get set to.0 ≡ Some true → to.0 < length old → pos r.by ≤ℤ pos most_by
raised_by old set from to limit new r reached end lacks holds in_to = less r.by r.least
  where
    at_most : (sep limit : ℤ) (n : ℕ) → IsNearTime sep → IsEnd (Some limit) → (sep +ℤ pos n) ≤ℤ limit → pos (suc n) ≤ℤ pos most_by
    at_most sep limit n reached end h = omega (arith, ints, reached.0, end.1, h)

    less : (by : ℕ) → ((n : ℕ) → n < by → separation (raised set n old) from to ≤ℤ limit) → pos by ≤ℤ pos most_by
    less zero least = omega (arith, ints)
    less (suc n) least = at_most (separation old from to) limit n reached end (subst (λ z. z ≤ℤ limit) (separation-raised set n old from to lacks holds in_to) (least n (omega arith)))

raised_time : (old new by : ℤ) → IsNearTime old → pos 0 ≤ℤ by → by ≤ℤ pos most_by → (new ≡ old) ⊎ (new ≡ old +ℤ by) → IsTime new
raised_time old new by near low high (inl e) = (omega (arith, ints, near.0, near.1, e), omega (arith, ints, near.0, near.1, e))
raised_time old new by near low high (inr e) = (omega (arith, ints, near.0, near.1, low, high, e), omega (arith, ints, near.0, near.1, low, high, e))

-- a time less the time of an origin that was at 0; both are old times, with or without the raise
apart : (old new origin at by : ℤ) → IsNearTime old → origin ≡ pos 0 → pos 0 ≤ℤ by → by ≤ℤ pos most_by → (new ≡ old) ⊎ (new ≡ old +ℤ by) → (at ≡ origin) ⊎ (at ≡ origin +ℤ by)
    → IsPrintedTime (new +ℤ neg_ℤ at)
apart old new origin at by n o low high (inl e) (inl f) = (omega (arith, ints, n.0, n.1, o, low, high, e, f), omega (arith, ints, n.0, n.1, o, low, high, e, f))
apart old new origin at by n o low high (inl e) (inr f) = (omega (arith, ints, n.0, n.1, o, low, high, e, f), omega (arith, ints, n.0, n.1, o, low, high, e, f))
apart old new origin at by n o low high (inr e) (inl f) = (omega (arith, ints, n.0, n.1, o, low, high, e, f), omega (arith, ints, n.0, n.1, o, low, high, e, f))
apart old new origin at by n o low high (inr e) (inr f) = (omega (arith, ints, n.0, n.1, o, low, high, e, f), omega (arith, ints, n.0, n.1, o, low, high, e, f))

-- the raise for the pair and the limit, as the code computes it
pub raises : (old : List ℤ) (set : List Bool) (from to : EventId) (read limit : ℤ) (new : List ℤ) (which : Which) (row : Row) → from ≡ source which row → to ≡ target which row → read ≡ limit
    → RaisesPast old set from to read new → RaisesPast old set (source which row) (target which row) limit new
raises old set from to read limit new which row f t e r =
    subst (λ p. RaisesPast old set p (target which row) limit new) f (subst (λ q. RaisesPast old set from q limit new) t (subst (λ z. RaisesPast old set from to z new) e r))

-- the separation of a pair with one of its events at 0
nearby_pair : (which : Which) (row : Row) (times : List ℤ) → time_of times row.from ≡ pos 0 → IsNearTime (time_of times row.to) → IsNearTime (separation times (source which row) (target which row))
nearby_pair Max row times at_zero near = onward (time_of times row.from) (time_of times row.to) at_zero near
  where
    onward : (a b : ℤ) → a ≡ pos 0 → IsNearTime b → IsNearTime (b -ℤ a)
    onward a b e n = (omega (arith, ints, n.0, n.1, e), omega (arith, ints, n.0, n.1, e))
nearby_pair Min row times at_zero near = back (time_of times row.from) (time_of times row.to) at_zero near
  where
    back : (a b : ℤ) → a ≡ pos 0 → IsNearTime b → IsNearTime (a -ℤ b)
    back a b e n = (omega (arith, ints, n.0, n.1, e), omega (arith, ints, n.0, n.1, e))

ray_of : (net : Net) (which : Which) (row : Row) (times : List ℤ) (set : List Bool) → CanRise which net row times set → IsRay net (source which row) (target which row) times set
ray_of net Max row times set ray = ray
ray_of net Min row times set ray = ray

in_pair : (which : Which) (row : Row) (events : ℕ) → row.from.0 < events → row.to.0 < events → ((source which row).0 < events) × ((target which row).0 < events)
in_pair Max row events in_from in_to = (in_from, in_to)
in_pair Min row events in_from in_to = (in_to, in_from)

module _ (net : Net) (which : Which) (row : Row) (limit : ℤ) (old : List ℤ) (set : List Bool) (is_row : IsRowOf net row) (endless : IsEndless net which row old set) where
  pub ray : IsRay net (source which row) (target which row) old set
  ray = ray_of net which row old set endless.raised

  pub searched : ((source which row).0 < net.events) × ((target which row).0 < net.events)
  searched = in_pair which row net.events is_row.0 is_row.1

  old_count : net.events ≡ length old
  old_count = sym endless.are_times.satisfied.count

  pub old_flags : length old ≡ length set
  old_flags = endless.are_times.satisfied.count ∙ sym ray.count

  module _ (new : List ℤ) (is_net : IsNet net) (end : IsEnd (Some limit)) (near : All IsNearTime old) (r : RaisesPast old set (source which row) (target which row) limit new) where
    new_count : length new ≡ net.events
    new_count = ap length r.rose ∙ length-raised set r.by old ∙ endless.are_times.satisfied.count

    pub in_new : row.from.0 < length new
    in_new = subst (λ n. row.from.0 < n) (sym new_count) is_row.0

    by_at_most : pos r.by ≤ℤ pos most_by
    by_at_most =
        raised_by old set (source which row) (target which row) limit new r
        (nearby_pair which row old endless.are_times.at_zero (near row.to.0 (pos 0) (subst (λ n. row.to.0 < n) old_count is_row.1))) end ray.lacks ray.holds
        (subst (λ n. (target which row).0 < n) old_count searched.1)

    new_at : (k : ℕ) → k < length old → (get_or new k (pos 0) ≡ get_or old k (pos 0)) ⊎ (get_or new k (pos 0) ≡ get_or old k (pos 0) +ℤ pos r.by)
    new_at k h =
        subst (λ (ts : List ℤ). (get_or ts k (pos 0) ≡ get_or old k (pos 0)) ⊎ (get_or ts k (pos 0) ≡ get_or old k (pos 0) +ℤ pos r.by)) (sym r.rose) (raised_at set r.by old k (pos 0) h)

    in_old : (k : ℕ) → k < length new → k < length old
    in_old k h = subst (λ n. k < n) (new_count ∙ old_count) h

    pub new_times : All IsTime new
    new_times k d h =
        all_or IsTime new k (pos 0) d h
        (raised_time (get_or old k (pos 0)) (get_or new k (pos 0)) (pos r.by) (near k (pos 0) (in_old k h)) (omega (arith, ints)) by_at_most (new_at k (in_old k h)))

    pub raise_done : (list : List ℤ) → list ≡ moved row.from new → ArePast net which row limit list
    raise_done list is =
        let sat : Satisfies new net = subst (λ ts. Satisfies ts net) (sym r.rose) (ray.satisfies r.by) in
        let s_from : (source which row).0 < length new = subst (λ n. (source which row).0 < n) (sym new_count) searched.0 in
        let s_to : (target which row).0 < length new = subst (λ n. (target which row).0 < n) (sym new_count) searched.1 in
        subst (ArePast net which row limit) (sym is) (record {
          are_times = record { satisfied = satisfies-moved net row.from new is_net sat; at_zero = zero-moved row.from new in_new; printed = moved_times };
          past = subst (λ z. limit <ℤ z) (sym (separation-moved row.from (source which row) (target which row) new s_from s_to)) r.past;
        })
      where
        moved_times : All IsPrintedTime (moved row.from new)
        moved_times k d h =
            let inside : k < length new = subst (λ n. k < n) (length-moved row.from new) h in
            let e : get_or (moved row.from new) k (pos 0) ≡ get_or new k (pos 0) +ℤ neg_ℤ (time_of new row.from) = time-moved row.from (record { 0 = k }) new inside in
            all_or IsPrintedTime (moved row.from new) k (pos 0) d h (subst IsPrintedTime (sym e)
            (apart (get_or old k (pos 0)) (get_or new k (pos 0)) (time_of old row.from) (time_of new row.from) (pos r.by) (near k (pos 0) (in_old k inside)) endless.are_times.at_zero (omega (arith, ints))
            by_at_most (new_at k (in_old k inside)) (new_at row.from.0 (in_old row.from.0 in_new))))
