-- What verdicts say by right bounds.
use Rattle.std.proofs.Common.{◌≡◌, ℤ, pos, negsuc, neg_ℤ, ◌≤ℤ◌, ◌<ℤ◌, ◌-ℤ◌, Bool, true, false, ◌&&◌, cond, List, Option, Some, None, option_map, refl, sym, ap, subst, arith, inl, inr, ◌⊎◌}
use Rattle.std.specs.Prelude.{IfSome, IsSomeAnd, int_lt, int_le}
use Rattle.std.proofs.lemmas.Bool.{and_parts, le-leb, ltb-false}
use Rattle.std.proofs.lemmas.Int.{ints}
use Rattle.itv_base.specs.Range.{Ends}
use Rattle.itv_base.specs.declared.names.EventId.{EventId}
use Rattle.itv_base.proofs.Integers.{lt_from_test, le_from_test, neg_twice}
use Rattle.event_graph.specs.Times.{separation, time_of}
use Rattle.event_graph.specs.Network.{Net}
use Rattle.event_graph.specs.Satisfying.{Satisfies}
use Rattle.event_graph.proofs.ByEdges.{root_bound_encloses}
use Rattle.event_graph.proofs.Reversing.{least_is_reversed_greatest}
use Rattle.requirements.specs.declared.bound.Bound.{Bound}
use Rattle.requirements.specs.declared.bound.Bound.TheVariants.{Closed, Unbounded, Within}
use Rattle.requirements.specs.declared.verdict.Verdict.{Verdict}
use Rattle.requirements.specs.declared.verdict.Verdict.TheVariants.{Pass, FailHigh, FailLow, Undecided}
use Rattle.requirements.specs.Bounds.{IsAttained, IsGreatestBound, IsLeastBound}
use Rattle.requirements.specs.Verdicts.{breaks_high, breaks_low, meets_high, meets_low, verdict_of}
use Rattle.requirements.specs.Laws.{FailHighIsBroken, FailLowIsBroken, IsWithin, PassIsMet, ReversedGreatestIsLeast, UndecidedIsWithin}

-- ---- tests of whole numbers

-- ---- which tests lead to a verdict

-- the four ways through the tests
pub data Ways (high low fine : Bool) (word : Verdict) : Type 0 where
  by_high : high ≡ true → word ≡ FailHigh → Ways high low fine word
  by_low : low ≡ true → word ≡ FailLow → Ways high low fine word
  by_fine : fine ≡ true → word ≡ Pass → Ways high low fine word
  by_none : high ≡ false → low ≡ false → fine ≡ false → word ≡ Undecided → Ways high low fine word

way_of : (high low fine : Bool) (word : Verdict) → cond high FailHigh (cond low FailLow (cond fine Pass Undecided)) ≡ word → Ways high low fine word
way_of true low fine word e = by_high refl (sym e)
way_of false true fine word e = by_low refl (sym e)
way_of false false true word e = by_fine refl (sym e)
way_of false false false word e = by_none refl refl refl (sym e)

abbrev Tested : Ends → Bound → Bound → Verdict → Type 0
Tested range least greatest word = Ways (breaks_high range.high greatest) (breaks_low range.low least) (meets_high range.high greatest && meets_low range.low least) word

tested : (range : Ends) (least greatest : Bound) (word : Verdict) → verdict_of range least greatest ≡ word → Tested range least greatest word
tested range least greatest word e = way_of (breaks_high range.high greatest) (breaks_low range.low least) (meets_high range.high greatest && meets_low range.low least) word e

-- ---- the sides

module _ (net : Net) (from to : EventId) where
  -- if a high end is fine, no satisfying separation is past it
  high_met : (high : Option ℤ) (greatest : Bound) → IsGreatestBound net from to greatest → meets_high high greatest ≡ true
      → (times : List ℤ) → Satisfies times net → IfSome high (λ most. separation times from to ≤ℤ most)
  high_met None greatest right fine times sat = tt
  high_met (Some high) (Closed value) right fine times sat =
      let most : separation times from to ≤ℤ value = right.most times sat in
      let end : value ≤ℤ high = le_from_test value high fine in
      omega (arith, ints)
  high_met (Some high) Unbounded right fine times sat = absurd (cc)
  high_met (Some high) (Within None attained) right fine times sat = absurd (cc)
  high_met (Some high) (Within (Some limit) attained) right fine times sat =
      let most : separation times from to ≤ℤ limit = root_bound_encloses net from to limit times right.0 sat in
      let end : limit ≤ℤ high = le_from_test limit high fine in
      omega (arith, ints)

  reversed_most : (times : List ℤ) (value : ℤ) → separation times to from ≤ℤ neg_ℤ value → value ≤ℤ separation times from to
  reversed_most times value h = least_from (time_of times from) (time_of times to) value h
    where
      least_from : (a b value : ℤ) → (a -ℤ b) ≤ℤ neg_ℤ value → value ≤ℤ (b -ℤ a)
      least_from a b value h = omega (arith, ints)

  low_met : (low : Option ℤ) (least : Bound) → IsLeastBound net from to least → meets_low low least ≡ true
      → (times : List ℤ) → Satisfies times net → IfSome low (λ fewest. fewest ≤ℤ separation times from to)
  low_met None least right fine times sat = tt
  low_met (Some low) (Closed value) right fine times sat =
      let fewest : value ≤ℤ separation times from to = right.least times sat in
      let end : low ≤ℤ value = le_from_test low value fine in
      omega (arith, ints)
  low_met (Some low) Unbounded right fine times sat = absurd (cc)
  low_met (Some low) (Within None attained) right fine times sat = absurd (cc)
  low_met (Some low) (Within (Some limit) attained) right fine times sat =
      let most : separation times to from ≤ℤ neg_ℤ limit = root_bound_encloses net to from (neg_ℤ limit) times right.0 sat in
      let fewest : limit ≤ℤ separation times from to = reversed_most times limit most in
      let end : low ≤ℤ limit = le_from_test low limit fine in
      omega (arith, ints)

  high_broken : (high : Option ℤ) (greatest : Bound) → IsGreatestBound net from to greatest → breaks_high high greatest ≡ true
      → (times : List ℤ) × Satisfies times net × IsSomeAnd high (λ most. most <ℤ separation times from to)
  high_broken None greatest right past = absurd (cc)
  high_broken (Some high) (Closed value) right past =
      (right.attained.0, right.attained.1, rw right.attained.2 (lt_from_test high value past))
  high_broken (Some high) Unbounded right past = right high
  high_broken (Some high) (Within limit None) right past = absurd (cc)
  high_broken (Some high) (Within limit (Some found)) right past =
      (right.1.0, right.1.1, rw right.1.2 (lt_from_test high found past))

  reversed_less : (times : List ℤ) (value : ℤ) → neg_ℤ value <ℤ separation times to from → separation times from to <ℤ value
  reversed_less times value h = less_from (time_of times from) (time_of times to) value h
    where
      less_from : (a b value : ℤ) → neg_ℤ value <ℤ (a -ℤ b) → (b -ℤ a) <ℤ value
      less_from a b value h = omega (arith, ints)

  low_broken : (low : Option ℤ) (least : Bound) → IsLeastBound net from to least → breaks_low low least ≡ true
      → (times : List ℤ) × Satisfies times net × IsSomeAnd low (λ fewest. separation times from to <ℤ fewest)
  low_broken None least right past = absurd (cc)
  low_broken (Some low) (Closed value) right past =
      (right.attained.0, right.attained.1, rw right.attained.2 (lt_from_test value low past))
  low_broken (Some low) Unbounded right past =
      let w = right (neg_ℤ low) in (w.0, w.1, reversed_less w.0 low w.2)
  low_broken (Some low) (Within limit None) right past = absurd (cc)
  low_broken (Some low) (Within limit (Some found)) right past =
      (right.1.0, right.1.1, rw right.1.2 (lt_from_test found low past))

-- ---- the laws

pub pass_is_met : PassIsMet
pass_is_met net from to range least greatest right e times sat =
    elim (tested range least greatest Pass e) [
      | by_high h word ↦ absurd (cc)
      | by_low h word ↦ absurd (cc)
      | by_fine h word ↦ (
          let both = and_parts (meets_high range.high greatest) (meets_low range.low least) h in
          (low_met net from to range.low least right.is_least both.1 times sat, high_met net from to range.high greatest right.is_greatest both.0 times sat))
      | by_none a b d word ↦ absurd (cc)
    ]

pub fail_high_is_broken : FailHighIsBroken
fail_high_is_broken net from to range least greatest right e =
    elim (tested range least greatest FailHigh e) [
      | by_high h word ↦ high_broken net from to range.high greatest right.is_greatest h
      | by_low h word ↦ absurd (cc)
      | by_fine h word ↦ absurd (cc)
      | by_none a b d word ↦ absurd (cc)
    ]

pub fail_low_is_broken : FailLowIsBroken
fail_low_is_broken net from to range least greatest right e =
    elim (tested range least greatest FailLow e) [
      | by_high h word ↦ absurd (cc)
      | by_low h word ↦ low_broken net from to range.low least right.is_least h
      | by_fine h word ↦ absurd (cc)
      | by_none a b d word ↦ absurd (cc)
    ]

-- if the bound of a side is closed or unbounded, the side is broken or fine
not_below : (a b : ℤ) → int_lt a b ≡ false → int_le b a ≡ true
not_below (pos a) (pos b) h = le-leb b a (ltb-false a b h)
not_below (pos a) (negsuc b) h = refl
not_below (negsuc a) (pos b) h = absurd (cc)
not_below (negsuc a) (negsuc b) h = le-leb a b (ltb-false b a h)

high_told : (high : Option ℤ) (greatest : Bound) → breaks_high high greatest ≡ false → (meets_high high greatest ≡ true) ⊎ IsWithin greatest
high_told None greatest h = inl refl
high_told (Some high) (Closed value) h = inl (not_below high value h)
high_told (Some high) Unbounded h = absurd (cc)
high_told (Some high) (Within limit attained) h = inr tt

low_told : (low : Option ℤ) (least : Bound) → breaks_low low least ≡ false → (meets_low low least ≡ true) ⊎ IsWithin least
low_told None least h = inl refl
low_told (Some low) (Closed value) h = inl (not_below value low h)
low_told (Some low) Unbounded h = absurd (cc)
low_told (Some low) (Within limit attained) h = inr tt

both_fine : (x y : Bool) → x ≡ true → y ≡ true → (x && y) ≡ false → ⊥
both_fine true true p q e = cc
both_fine true false p q e = cc
both_fine false y p q e = cc

pub undecided_is_within : UndecidedIsWithin
undecided_is_within range least greatest e =
    elim (tested range least greatest Undecided e) [
      | by_high h word ↦ absurd (cc)
      | by_low h word ↦ absurd (cc)
      | by_fine h word ↦ absurd (cc)
      | by_none a b d word ↦ elim (low_told range.low least b) [
        | inr left ↦ inl left
        | inl low ↦ elim (high_told range.high greatest a) [
          | inr left ↦ inr left
          | inl high ↦ absurd (both_fine (meets_high range.high greatest) (meets_low range.low least) high low d)
        ]
      ]
    ]

-- ---- the reversed pair

attained_back : (net : Net) (from to : EventId) (value : ℤ) → IsAttained net to from value → IsAttained net from to (neg_ℤ value)
attained_back net from to value h = (h.0, h.1, back (time_of h.0 from) (time_of h.0 to) value h.2)
  where
    back : (a b value : ℤ) → (a -ℤ b) ≡ value → (b -ℤ a) ≡ neg_ℤ value
    back a b value e = omega (arith, ints)

some_back : (net : Net) (from to : EventId) (o : Option ℤ) → IfSome o (IsAttained net to from) → IfSome (option_map neg_ℤ o) (IsAttained net from to)
some_back net from to None h = tt
some_back net from to (Some value) h = attained_back net from to value h

some_forth : (net : Net) (from to : EventId) (o : Option ℤ) → IfSome (option_map neg_ℤ o) (IsAttained net from to) → IfSome o (IsAttained net to from)
some_forth net from to None h = tt
some_forth net from to (Some value) h = subst (IsAttained net to from) (neg_twice value) (attained_back net to from (neg_ℤ value) h)

pub map_twice : (o : Option ℤ) → option_map neg_ℤ (option_map neg_ℤ o) ≡ o
map_twice None = refl
map_twice (Some value) = ap (λ z. Some z) (neg_twice value)

pub reversed_greatest_is_least : ReversedGreatestIsLeast
reversed_greatest_is_least net from to (Closed value) =
    let both = least_is_reversed_greatest net from to (neg_ℤ value) in
    let twice : neg_ℤ (neg_ℤ value) ≡ value = neg_twice value in
    ((λ h. both.1 (rw twice h)), (λ h. rw twice at (both.0 h)))
reversed_greatest_is_least net from to Unbounded = ((λ h. h), (λ h. h))
reversed_greatest_is_least net from to (Within limit attained) =
    ((λ h. (rw (map_twice limit) h.0, some_back net from to attained h.1)), (λ h. (rw (map_twice limit) at h.0, some_forth net from to attained h.1)))
