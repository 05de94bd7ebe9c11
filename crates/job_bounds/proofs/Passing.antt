-- Times past an end of a range.
use Rattle.std.proofs.Common.{◌≡◌, ◌<◌, ◌+◌, ◌*◌, ◌⊎◌, ℕ, zero, suc, ℤ, pos, neg_ℤ, ◌+ℤ◌, ◌-ℤ◌, ◌≤ℤ◌, ◌<ℤ◌, Bool, true, false, List, length, get_or, All, Option, Some, None, slice_get, refl, sym, subst, ap, ◌∙◌, inl, inr, arith}
use Rattle.std.specs.Prelude.{IsSomeAnd}
use Rattle.std.proofs.lemmas.Int.{ints}
use Rattle.itv_base.specs.Range.{Ends, IsEnd}
use Rattle.itv_base.specs.declared.names.EventId.{EventId}
use Rattle.itv_base.proofs.Integers.{past_minus, lt_from_test}
use Rattle.itv_base.proofs.Lists.{all_or}
use Rattle.event_graph.specs.Limits.{IsPrintedTime, reach_limit, weight_limit}
use Rattle.branch.specs.Work.{IsKnownReach}
use Rattle.event_graph.specs.Bounds.{IsRay}
use Rattle.event_graph.specs.Network.{IsNet, Net}
use Rattle.event_graph.specs.Satisfying.{Satisfies}
use Rattle.event_graph.specs.Times.{IsTime, raised, separation, shifted, time_of}
use Rattle.event_graph.proofs.Rays.{length-raised, separation-raised, raised_at}
use Rattle.event_graph.proofs.Shifting.{length-shifted}
use Rattle.requirements.specs.Raising.{RaisesPast}
use Rattle.requirements.proofs.Breaking.{high_breaks, low_breaks}
use Rattle.requirements.specs.Verdicts.{breaks_high, breaks_low, verdict_of}
use Rattle.requirements.specs.declared.bound.Bound.{Bound}
use Rattle.requirements.specs.declared.bound.Bound.TheVariants as bounds
use Rattle.requirements.specs.declared.verdict.Verdict.{Verdict}
use Rattle.requirements.specs.declared.verdict.Verdict.TheVariants as verdicts
use Rattle.slack_report.specs.Entry.{times as times_line}
use Rattle.right_report.specs.Right.ReportState.{ReportState, CurrentRow, at_past, behind_past, behind_verdict, is_fail}
use Rattle.drawn_networks.specs.Drawn.{Drawn, AreTimes}
use Rattle.drawn_networks.specs.declared.row.Row.{Row}
use Rattle.right_report.specs.Right.LineClaims.{BreaksEnd}
use Rattle.right_report.specs.Right.Following.{MayFollow}
use Rattle.job_bounds.specs.Step.Searched.{sized}
use Rattle.slack_report.specs.declared.words.Which.{Which}
use Rattle.slack_report.specs.declared.words.Which.TheVariants as sorts
use Rattle.event_graph.specs.declared.pair.Pair.{Pair}
use Rattle.job_bounds.specs.Step.Witness.{ArePast, AreNearby, Attain, HasFoundValue, IsBeyond, IsWitness, IsNearby, number_on, searched_pair}
use Rattle.job_bounds.proofs.Shifted.{at_zero, satisfies-shifted, separation-shifted, time-shifted, times_nearby}

-- ---- numbers of times that are raised

-- the greatest number that a set is raised by to pass an end
abbrev most_by : ℕ
most_by = 3 * reach_limit + weight_limit + 1

-- a time that was raised by at most this number
IsRaised : ℤ → Type 0
IsRaised time = (neg_ℤ (pos (9 * reach_limit)) ≤ℤ time) × (time ≤ℤ pos (9 * reach_limit + most_by))

-- by how much the times are raised
raised_by : (old : List ℤ) (set : List Bool) (from to : EventId) (limit : ℤ) (new : List ℤ) (r : RaisesPast old set from to limit new) → IsKnownReach (separation old from to) → IsEnd (Some limit)
    → slice_get set from.0 ≡ Some false → slice_get set to.0 ≡ Some true → to.0 < length old → pos r.by ≤ℤ pos most_by
raised_by old set from to limit new r reached end lacks holds in_to = less r.by r.least
  where
    at_most : (sep limit : ℤ) (n : ℕ) → IsKnownReach sep → IsEnd (Some limit) → (sep +ℤ pos n) ≤ℤ limit → pos (suc n) ≤ℤ pos most_by
    at_most sep limit n reached end h = omega (arith, ints, reached, end.1, h)

    less : (by : ℕ) → ((n : ℕ) → n < by → separation (raised set n old) from to ≤ℤ limit) → pos by ≤ℤ pos most_by
    less zero least = omega (arith, ints)
    less (suc n) least = at_most (separation old from to) limit n reached end (subst (λ z. z ≤ℤ limit) (separation-raised set n old from to lacks holds in_to) (least n (omega arith)))

is_raised : (old new by : ℤ) → IsNearby old → pos 0 ≤ℤ by → by ≤ℤ pos most_by → (new ≡ old) ⊎ (new ≡ old +ℤ by) → IsRaised new
unfolding IsRaised
is_raised old new by near low high (inl e) = (omega (arith, ints, near.0, near.1, e), omega (arith, ints, near.0, near.1, e))
is_raised old new by near low high (inr e) = (omega (arith, ints, near.0, near.1, low, high, e), omega (arith, ints, near.0, near.1, low, high, e))

-- a time less the time of an origin that was at 0; both are old times, with or without the raise
apart : (old new origin at by : ℤ) → IsNearby old → origin ≡ pos 0 → pos 0 ≤ℤ by → by ≤ℤ pos most_by → (new ≡ old) ⊎ (new ≡ old +ℤ by) → (at ≡ origin) ⊎ (at ≡ origin +ℤ by)
    → IsPrintedTime (new +ℤ neg_ℤ at)
apart old new origin at by n o low high (inl e) (inl f) = (omega (arith, ints, n.0, n.1, o, low, high, e, f), omega (arith, ints, n.0, n.1, o, low, high, e, f))
apart old new origin at by n o low high (inl e) (inr f) = (omega (arith, ints, n.0, n.1, o, low, high, e, f), omega (arith, ints, n.0, n.1, o, low, high, e, f))
apart old new origin at by n o low high (inr e) (inl f) = (omega (arith, ints, n.0, n.1, o, low, high, e, f), omega (arith, ints, n.0, n.1, o, low, high, e, f))
apart old new origin at by n o low high (inr e) (inr f) = (omega (arith, ints, n.0, n.1, o, low, high, e, f), omega (arith, ints, n.0, n.1, o, low, high, e, f))

raised_time : (a : ℤ) → IsRaised a → IsTime a
unfolding IsRaised
raised_time a h = (omega (arith, ints, h.0, h.1), omega (arith, ints, h.0, h.1))

-- nearby times are near 0, if one of them is 0
near_zero : (times : List ℤ) (origin : EventId) (k : ℕ) → AreNearby times → origin.0 < length times → time_of times origin ≡ pos 0 → k < length times → IsNearby (get_or times k (pos 0))
near_zero times origin k near in' at within = from_zero (get_or times k (pos 0)) (time_of times origin) at (near origin (record { 0 = k }) in' within)
  where
    from_zero : (time origin : ℤ) → origin ≡ pos 0 → IsNearby (time -ℤ origin) → IsNearby time
    from_zero time origin e n = (omega (arith, ints, e, n.0, n.1), omega (arith, ints, e, n.0, n.1))

module _ (net : Net) (pair : Pair) (which : Which) (limit : ℤ) (old : List ℤ) (set : List Bool) (new : List ℤ) (is_net : IsNet net) (end : IsEnd (Some limit)) (in_to : pair.to.0 < net.events)
    (kept : IsWitness net pair which bounds.Unbounded old set) (r : RaisesPast old set (searched_pair which pair).from (searched_pair which pair).to limit new) where
  ray : IsRay net (searched_pair which pair).from (searched_pair which pair).to old set
  ray = kept.attain

  in_searched : (w : Which) → ((searched_pair w pair).from.0 < net.events) × ((searched_pair w pair).to.0 < net.events)
  in_searched sorts.Max = (kept.from, in_to)
  in_searched sorts.Min = (in_to, kept.from)

  old_count : net.events ≡ length old
  old_count = sym kept.satisfied.count

  pub new_count : length new ≡ net.events
  new_count = ap length r.rose ∙ length-raised set r.by old ∙ kept.satisfied.count

  by_at_most : pos r.by ≤ℤ pos most_by
  by_at_most = raised_by old set (searched_pair which pair).from (searched_pair which pair).to limit new r kept.reached end ray.lacks ray.holds
      (subst (λ n. (searched_pair which pair).to.0 < n) old_count (in_searched which).1)

  old_nearby : (k : ℕ) → k < length old → IsNearby (get_or old k (pos 0))
  old_nearby k h = near_zero old pair.from k kept.nearby (subst (λ n. pair.from.0 < n) old_count kept.from) kept.at_zero h

  new_at : (k : ℕ) → k < length old → (get_or new k (pos 0) ≡ get_or old k (pos 0)) ⊎ (get_or new k (pos 0) ≡ get_or old k (pos 0) +ℤ pos r.by)
  new_at k h =
      subst (λ (ts : List ℤ). (get_or ts k (pos 0) ≡ get_or old k (pos 0)) ⊎ (get_or ts k (pos 0) ≡ get_or old k (pos 0) +ℤ pos r.by)) (sym r.rose) (raised_at set r.by old k (pos 0) h)

  raised_all : (k : ℕ) → k < length old → IsRaised (get_or new k (pos 0))
  raised_all k h = is_raised (get_or old k (pos 0)) (get_or new k (pos 0)) (pos r.by) (old_nearby k h) (omega (arith, ints)) by_at_most (new_at k h)

  in_old : (k : ℕ) → k < length new → k < length old
  in_old k h = subst (λ n. k < n) (new_count ∙ old_count) h

  pub new_times : All IsTime new
  new_times k d h = all_or IsTime new k (pos 0) d h (raised_time (get_or new k (pos 0)) (raised_all k (in_old k h)))

  pub raise_done : (list : List ℤ) → list ≡ shifted new (neg_ℤ (time_of new pair.from)) → ArePast net pair which limit list
  raise_done list is =
      let by : ℤ = neg_ℤ (time_of new pair.from) in
      let f : pair.from.0 < length new = subst (λ n. pair.from.0 < n) (sym new_count) kept.from in
      let s_from : (searched_pair which pair).from.0 < length new = subst (λ n. (searched_pair which pair).from.0 < n) (sym new_count) (in_searched which).0 in
      let s_to : (searched_pair which pair).to.0 < length new = subst (λ n. (searched_pair which pair).to.0 < n) (sym new_count) (in_searched which).1 in
      let sat : Satisfies new net = subst (λ ts. Satisfies ts net) (sym r.rose) (ray.satisfies r.by) in record {
        satisfied = subst (λ ts. Satisfies ts net) (sym is) (satisfies-shifted net new by is_net sat);
        at_zero = at_zero new list pair.from f is;
        within = subst (λ (ts : List ℤ). All IsPrintedTime ts) (sym is) (shifted_times f);
        past = subst (λ (ts : List ℤ). limit <ℤ separation ts (searched_pair which pair).from (searched_pair which pair).to) (sym is)
            (subst (λ z. limit <ℤ z) (separation-shifted new by (searched_pair which pair).from (searched_pair which pair).to s_from s_to) r.past);
      }
    where
      shifted_times : pair.from.0 < length new → All IsPrintedTime (shifted new (neg_ℤ (time_of new pair.from)))
      shifted_times f k d h =
          let by : ℤ = neg_ℤ (time_of new pair.from) in
          let inside : k < length new = subst (λ n. k < n) (length-shifted new by) h in
          let e : get_or (shifted new by) k (pos 0) ≡ get_or new k (pos 0) +ℤ by = time-shifted new by (record { 0 = k }) inside in
          all_or IsPrintedTime (shifted new by) k (pos 0) d h (subst IsPrintedTime (sym e)
          (apart (get_or old k (pos 0)) (get_or new k (pos 0)) (time_of old pair.from) (time_of new pair.from) (pos r.by) (old_nearby k (in_old k inside)) kept.at_zero (omega (arith, ints)) by_at_most
          (new_at k (in_old k inside)) (new_at pair.from.0 (in_old pair.from.0 f))))

-- what a call that raises promises, with other names for the searched pair and the limit
pub raises : (old : List ℤ) (set : List Bool) (pair : Pair) (which : Which) (searched : Pair) (limit read : ℤ) (new : List ℤ) → searched ≡ searched_pair which pair → read ≡ limit
    → RaisesPast old set searched.from searched.to read new → RaisesPast old set (searched_pair which pair).from (searched_pair which pair).to limit new
raises old set pair which searched limit read new e f r =
    subst (λ (z : ℤ). RaisesPast old set (searched_pair which pair).from (searched_pair which pair).to z new) f (subst (λ (p : Pair). RaisesPast old set p.from p.to read new) e r)

-- ---- bounds that are past by themselves

turn : (a b limit : ℤ) → limit <ℤ neg_ℤ (b -ℤ a) → limit <ℤ (a -ℤ b)
turn a b limit h = omega (arith, ints)

number_past : (pair : Pair) (which : Which) (value limit : ℤ) (list : List ℤ) → separation list pair.from pair.to ≡ value → limit <ℤ number_on which value
    → limit <ℤ separation list (searched_pair which pair).from (searched_pair which pair).to
number_past pair sorts.Max value limit list e h = subst (λ z. limit <ℤ z) (sym e) h
number_past pair sorts.Min value limit list e h = turn (time_of list pair.from) (time_of list pair.to) limit (subst (λ z. limit <ℤ neg_ℤ z) (sym e) h)

beyond_past : (net : Net) (pair : Pair) (which : Which) (value : Bound) (limit : ℤ) (list : List ℤ) (set : List Bool) → (value ≡ bounds.Unbounded → ⊥) → IsBeyond which value limit → Attain net pair which value list set
    → limit <ℤ separation list (searched_pair which pair).from (searched_pair which pair).to
beyond_past net pair which (bounds.Closed value) limit list set n beyond a = number_past pair which value limit list a beyond
beyond_past net pair which bounds.Unbounded limit list set n beyond a = absurd (n refl)
beyond_past net pair which (bounds.Within upper None) limit list set n beyond a = absurd a
beyond_past net pair which (bounds.Within upper (Some found)) limit list set n beyond a = number_past pair which found limit list a beyond

pub past_kept : (net : Net) (pair : Pair) (which : Which) (value : Bound) (limit : ℤ) (list : List ℤ) (set : List Bool) → (value ≡ bounds.Unbounded → ⊥) → IsBeyond which value limit
    → IsWitness net pair which value list set → ArePast net pair which limit list
past_kept net pair which value limit list set n beyond kept = record {
  satisfied = kept.satisfied;
  at_zero = kept.at_zero;
  within = times_nearby list pair.from kept.nearby (subst (λ n. pair.from.0 < n) (sym kept.satisfied.count) kept.from) kept.at_zero;
  past = beyond_past net pair which value limit list set n beyond kept.attain;
}

-- ---- which end a fail breaks

beyond_high : (limit : ℤ) (most : Bound) → breaks_high (Some limit) most ≡ true → IsBeyond sorts.Max most limit × HasFoundValue most
beyond_high limit (bounds.Closed value) e = (lt_from_test limit value e, tt)
beyond_high limit bounds.Unbounded e = (tt, tt)
beyond_high limit (bounds.Within upper None) e = absurd (cc e)
beyond_high limit (bounds.Within upper (Some found)) e = (lt_from_test limit found e, tt)

beyond_low : (limit : ℤ) (least : Bound) → breaks_low (Some (neg_ℤ limit)) least ≡ true → IsBeyond sorts.Min least limit × HasFoundValue least
beyond_low limit (bounds.Closed value) e = (past_minus value limit e, tt)
beyond_low limit bounds.Unbounded e = (tt, tt)
beyond_low limit (bounds.Within upper None) e = absurd (cc e)
beyond_low limit (bounds.Within upper (Some found)) e = (past_minus found limit e, tt)

-- a bound that breaks an end goes past it
pub past_high : (range : Ends) (least most : Bound) (limit : ℤ) → verdict_of range least most ≡ verdicts.FailHigh → range.high ≡ Some limit → IsBeyond sorts.Max most limit × HasFoundValue most
past_high range least most limit word end = beyond_high limit most (subst (λ (high : Option ℤ). breaks_high high most ≡ true) end (high_breaks range least most word))

pub past_low : (range : Ends) (least most : Bound) (limit : ℤ) → verdict_of range least most ≡ verdicts.FailLow → range.low ≡ Some (neg_ℤ limit) → IsBeyond sorts.Min least limit × HasFoundValue least
past_low range least most limit word end = beyond_low limit least (subst (λ (low : Option ℤ). breaks_low low least ≡ true) end (low_breaks range least most word))

-- ---- the lines of a verdict

above : (r : Row) (range : Ends) (limit : ℤ) (list : List ℤ) → range.high ≡ Some limit → limit <ℤ separation list r.from r.to → BreaksEnd r range verdicts.FailHigh list
above r range limit list e h = subst (λ (high : Option ℤ). IsSomeAnd high (λ high. high <ℤ separation list r.from r.to)) (sym e) h

under : (r : Row) (range : Ends) (limit : ℤ) (list : List ℤ) → range.low ≡ Some (neg_ℤ limit) → limit <ℤ separation list r.to r.from → BreaksEnd r range verdicts.FailLow list
under r range limit list e h = subst (λ (low : Option ℤ). IsSomeAnd low (λ low. separation list r.from r.to <ℤ low)) (sym e) (turn_under (time_of list r.from) (time_of list r.to) limit h)
  where
    turn_under : (a b limit : ℤ) → limit <ℤ (a -ℤ b) → (b -ℤ a) <ℤ neg_ℤ limit
    turn_under a b limit h = omega (arith, ints)

module _ (net : Net) (m : ℕ) (cert : Bool) (basis : List ℤ) (drawn : Drawn) (current : CurrentRow) (range : Ends) (least most : Bound) (pair : Pair) (f : current.row.from ≡ pair.from) (t : current.row.to ≡ pair.to) where
  are_times : (which : Which) (limit : ℤ) (list : List ℤ) → ArePast net pair which limit list → All IsPrintedTime list × AreTimes net current.row list
  are_times which limit list past = (past.within, record { satisfied = past.satisfied; at_zero = ap (λ (e : EventId). time_of list e) f ∙ past.at_zero })

  -- times that break the end that a fail names
  past_may : (word : Verdict) (list : List ℤ) → is_fail word ≡ true → word ≡ verdict_of range least most → All IsPrintedTime list × AreTimes net current.row list → BreaksEnd current.row range word list
      → MayFollow (sized net m cert basis) drawn (behind_verdict current range least most word) (times_line list) (behind_past current range least most word)
  past_may word list fail e are breaks =
      subst (λ (at : ReportState). MayFollow (sized net m cert basis) drawn at (times_line list) (behind_past current range least most word)) (sym (at_fail word fail))
      (list, refl, (are.0, (are.1, subst (λ (w : Verdict). BreaksEnd current.row range w list) e breaks)), ap (behind_past current range least most) e)
    where
      at_fail : (word : Verdict) → is_fail word ≡ true → behind_verdict current range least most word ≡ at_past current range least most
      at_fail word fail = rw fail refl

  pub past_high_may : (word : Verdict) (limit read : ℤ) (list : List ℤ) → word ≡ verdicts.FailHigh → word ≡ verdict_of range least most → range.high ≡ Some limit → read ≡ limit
      → ArePast net pair sorts.Max read list → MayFollow (sized net m cert basis) drawn (behind_verdict current range least most word) (times_line list) (behind_past current range least most word)
  past_high_may word limit read list is e high same past =
      past_may word list (ap is_fail is) e (are_times sorts.Max read list past)
      (subst (λ (w : Verdict). BreaksEnd current.row range w list) (sym is) (above current.row range read list (high ∙ ap Some (sym same))
      (subst (λ (p : EventId). read <ℤ separation list p current.row.to) (sym f) (subst (λ (p : EventId). read <ℤ separation list pair.from p) (sym t) past.past))))

  pub past_low_may : (word : Verdict) (limit read : ℤ) (list : List ℤ) → word ≡ verdicts.FailLow → word ≡ verdict_of range least most → range.low ≡ Some (neg_ℤ limit) → read ≡ limit
      → ArePast net pair sorts.Min read list → MayFollow (sized net m cert basis) drawn (behind_verdict current range least most word) (times_line list) (behind_past current range least most word)
  past_low_may word limit read list is e low same past =
      past_may word list (ap is_fail is) e (are_times sorts.Min read list past)
      (subst (λ (w : Verdict). BreaksEnd current.row range w list) (sym is) (under current.row range read list (low ∙ ap (λ z. Some (neg_ℤ z)) (sym same))
      (subst (λ (p : EventId). read <ℤ separation list current.row.to p) (sym f) (subst (λ (p : EventId). read <ℤ separation list p pair.from) (sym t) past.past))))
