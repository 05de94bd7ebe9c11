-- Whether all satisfying times keep a range.
use Rattle.std.proofs.Common.{◌≡◌, ℤ, neg_ℤ, ◌≤ℤ◌, ◌<ℤ◌, ◌-ℤ◌, Bool, true, false, List, Option, Some, None, option_map, refl, arith, inl, inr}
use Rattle.std.specs.Prelude.{IfSome, IsSomeAnd, if◌then◌else◌, int_le}
use Rattle.std.proofs.lemmas.Int.{ints}
use Rattle.itv_base.specs.Range.{Ends}
use Rattle.itv_base.specs.declared.names.EventId.{EventId}
use Rattle.itv_base.proofs.Integers.{le_from_test}
use Rattle.event_graph.specs.Bounds.{IsGreatest}
use Rattle.event_graph.specs.Network.{Net}
use Rattle.event_graph.specs.Times.{separation, time_of}
use Rattle.event_graph.proofs.Rays.{ray_is_unbounded}
use Rattle.drawn_networks.specs.Drawn.{Drawn}
use Rattle.drawn_networks.specs.declared.row.Row.{Row}
use Rattle.requirements.specs.Laws.{IsMet}
use Rattle.explanations.specs.Apart.{net_apart}
use Rattle.requirements.specs.Separations.{is_open}
use Rattle.extremes.specs.Found.{IsConsistency, IsGreatestFound}
use Rattle.requirements.specs.declared.consistency.Consistency.{Consistency}
use Rattle.requirements.specs.declared.consistency.Consistency.TheVariants as consistency
use Rattle.extremes.specs.Found.{Greatest}
use Rattle.requirements.specs.declared.separation.Separation.TheVariants as greatest
use Rattle.job_lint.specs.declared.by_order.ByOrder.TheVariants as by_order
use Rattle.job_lint.specs.declared.kept.Extent.{Extent}
use Rattle.job_lint.specs.declared.kept.Extent.TheVariants as extent
use Rattle.job_lint.specs.declared.kept.RangeKept.{RangeKept}
use Rattle.job_lint.specs.declared.kept.RangeKept.TheVariants as kept
use Rattle.job_lint.specs.declared.pair_seen.PairSeen.{PairSeen}
use Rattle.job_lint.specs.declared.pair_seen.PairSeen.TheVariants as seen
use Rattle.job_lint.specs.Found.{ContradictsByOrder, IsPairSeen, PassesByOrder, is_order_open, is_pair_open}
use Rattle.job_lint.specs.Step.Keeping.{IsExtent, KeepsBelow, KeepsRange, extent_by, extent_of, kept_below, kept_both, kept_in, order_by_finding, order_by_kept}

-- ---- extents

-- what is found of a greatest separation is right
pub extent_found : (net : Net) (from to : EventId) (found : Greatest) → IsGreatestFound net from to found → IsExtent net from to (extent_by found)
extent_found net from to (greatest.Closed value times) is = is.greatest
extent_found net from to (greatest.Unbounded set) is = ray_is_unbounded net from to is.0 set.items is.2
extent_found net from to (greatest.Open limit attained) is = tt

pub extent_seen : (net : Net) (from to : EventId) (found : PairSeen) → IsPairSeen net from to found → IsExtent net from to (extent_of found)
extent_seen net from to (seen.Closed value chain) is = is.0
extent_seen net from to seen.Unbounded is = ray_is_unbounded net from to is.1.0 is.0 is.1.2
extent_seen net from to seen.Open is = tt

pub extent_settles : (found : Greatest) → is_open found ≡ false → extent_by found ≡ extent.Open → ⊥
extent_settles (greatest.Closed value times) settled is = absurd (cc is)
extent_settles (greatest.Unbounded set) settled is = absurd (cc is)
extent_settles (greatest.Open limit attained) settled is = absurd (cc settled)

pub seen_settles : (found : PairSeen) → is_pair_open found ≡ false → extent_of found ≡ extent.Open → ⊥
seen_settles (seen.Closed value chain) settled is = absurd (cc is)
seen_settles seen.Unbounded settled is = absurd (cc is)
seen_settles seen.Open settled is = absurd (cc settled)

-- ---- a side

not_at_most : (a b : ℤ) → int_le a b ≡ false → b <ℤ a
not_at_most a b h = omega (arith, ints)

closed_kept : (net : Net) (from to : EventId) (end value : ℤ) → IsGreatest net from to value → (fits : Bool) → int_le value end ≡ fits
    → KeepsBelow net from to (Some end) (if fits then kept.All else kept.NotAll)
closed_kept net from to end value is true e = λ times sat.
    let most : separation times from to ≤ℤ value = is.most times sat in
    let below : value ≤ℤ end = le_from_test value end e in
    omega (arith, ints)
closed_kept net from to end value is false e = (is.attained.0, is.attained.1, rw is.attained.2 (not_at_most value end e))

below_kept : (net : Net) (from to : EventId) (end : Option ℤ) (found : Extent) → IsExtent net from to found → KeepsBelow net from to end (kept_below end found)
below_kept net from to None found is = λ times sat. tt
below_kept net from to (Some end) (extent.Closed value) is = closed_kept net from to end value is (int_le value end) refl
below_kept net from to (Some end) extent.Unbounded is = is end
below_kept net from to (Some end) extent.Open is = tt

-- ---- a range

low_kept : (low : Option ℤ) (times : List ℤ) (from to : EventId) → IfSome (option_map neg_ℤ low) (λ most. separation times to from ≤ℤ most)
    → IfSome low (λ least. least ≤ℤ separation times from to)
low_kept None times from to h = tt
low_kept (Some low) times from to h = turned (time_of times from) (time_of times to) low h
  where
    turned : (a b low : ℤ) → (a -ℤ b) ≤ℤ neg_ℤ low → low ≤ℤ (b -ℤ a)
    turned a b low h = omega (arith, ints)

low_broken : (low : Option ℤ) (times : List ℤ) (from to : EventId) → IsSomeAnd (option_map neg_ℤ low) (λ most. most <ℤ separation times to from)
    → IsSomeAnd low (λ least. separation times from to <ℤ least)
low_broken None times from to h = absurd h
low_broken (Some low) times from to h = turned (time_of times from) (time_of times to) low h
  where
    turned : (a b low : ℤ) → neg_ℤ low <ℤ (a -ℤ b) → (b -ℤ a) <ℤ low
    turned a b low h = omega (arith, ints)

sides_kept : (net : Net) (from to : EventId) (range : Ends) (high low : RangeKept) → KeepsBelow net from to range.high high
    → KeepsBelow net to from (option_map neg_ℤ range.low) low → KeepsRange net from to range (kept_both high low)
sides_kept net from to range kept.NotAll low h l = inl h
sides_kept net from to range kept.All kept.All h l = λ times sat. (low_kept range.low times from to (l times sat), h times sat)
sides_kept net from to range kept.All kept.NotAll h l = inr (l.0, l.1, low_broken range.low l.0 from to l.2)
sides_kept net from to range kept.All kept.Open h l = tt
sides_kept net from to range kept.Open kept.NotAll h l = inr (l.0, l.1, low_broken range.low l.0 from to l.2)
sides_kept net from to range kept.Open kept.All h l = tt
sides_kept net from to range kept.Open kept.Open h l = tt

-- whether a range is kept, according to the greatest separation of a pair and of the reversed one
pub range_kept : (net : Net) (from to : EventId) (range : Ends) (found reversed : Extent) → IsExtent net from to found → IsExtent net to from reversed
    → KeepsRange net from to range (kept_in range found reversed)
range_kept net from to range found reversed is other =
    sides_kept net from to range (kept_below range.high found) (kept_below (option_map neg_ℤ range.low) reversed) (below_kept net from to range.high found is)
    (below_kept net to from (option_map neg_ℤ range.low) reversed other)

-- ---- what is not left open

closed_settles : (fits : Bool) → (if fits then kept.All else kept.NotAll) ≡ kept.Open → ⊥
closed_settles true is = absurd (cc is)
closed_settles false is = absurd (cc is)

below_settles : (end : Option ℤ) (found : Extent) → (found ≡ extent.Open → ⊥) → kept_below end found ≡ kept.Open → ⊥
below_settles None found settled is = absurd (cc is)
below_settles (Some end) (extent.Closed value) settled is = closed_settles (int_le value end) is
below_settles (Some end) extent.Unbounded settled is = absurd (cc is)
below_settles (Some end) extent.Open settled is = settled refl

both_settle : (high low : RangeKept) → (high ≡ kept.Open → ⊥) → (low ≡ kept.Open → ⊥) → kept_both high low ≡ kept.Open → ⊥
both_settle kept.NotAll low h l is = absurd (cc is)
both_settle kept.All kept.NotAll h l is = absurd (cc is)
both_settle kept.All kept.All h l is = absurd (cc is)
both_settle kept.All kept.Open h l is = l refl
both_settle kept.Open low h l is = h refl

pub range_settles : (range : Ends) (found reversed : Extent) → (found ≡ extent.Open → ⊥) → (reversed ≡ extent.Open → ⊥) → kept_in range found reversed ≡ kept.Open → ⊥
range_settles range found reversed f r is =
    both_settle (kept_below range.high found) (kept_below (option_map neg_ℤ range.low) reversed) (below_settles range.high found f)
    (below_settles (option_map neg_ℤ range.low) reversed r) is

-- ---- by the order of lanes

pub passes_by_kept : (network : Drawn) (row : Row) (range : Ends) (found : RangeKept) → IsMet network.net row.from row.to range
    → KeepsRange (net_apart network) row.from row.to range found → PassesByOrder network row range (order_by_kept found)
passes_by_kept network row range kept.All met keeps = inr keeps
passes_by_kept network row range kept.NotAll met keeps = (met, keeps)
passes_by_kept network row range kept.Open met keeps = tt

pub kept_order_settles : (found : RangeKept) → (found ≡ kept.Open → ⊥) → is_order_open (order_by_kept found) ≡ false
kept_order_settles kept.All settled = refl
kept_order_settles kept.NotAll settled = refl
kept_order_settles kept.Open settled = absurd (settled refl)

-- a requirement that some satisfying times break does not pass
pub not_met : (network : Drawn) (row : Row) (range : Ends) → KeepsRange network.net row.from row.to range kept.NotAll → PassesByOrder network row range by_order.No
not_met network row range keeps = inl keeps

pub contradicts_by_finding : (network : Drawn) (found : Consistency) → IsConsistency (net_apart network) found → ContradictsByOrder network (order_by_finding found)
contradicts_by_finding network consistency.Consistent is = is
contradicts_by_finding network consistency.Inconsistent is = is
contradicts_by_finding network consistency.Open is = tt

pub finding_order_settles : (found : Consistency) → (found ≡ consistency.Open → ⊥) → is_order_open (order_by_finding found) ≡ false
finding_order_settles consistency.Consistent settled = refl
finding_order_settles consistency.Inconsistent settled = refl
finding_order_settles consistency.Open settled = absurd (settled refl)
