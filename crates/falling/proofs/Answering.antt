-- What settled, ended and spent derivations say of a pair.
use Rattle.std.proofs.Common.{◌≡◌, ◌*◌, ◌<◌, ◌⊎◌, inl, inr, ℕ, ℤ, pos, ◌+ℤ◌, ◌-ℤ◌, ◌≤ℤ◌, ◌<ℤ◌, Bool, true, false, int_lt, List, length, Some, sym, ap, ◌∙◌, refl, subst, arith}
use Rattle.std.proofs.lemmas.Int.{ints}
use Rattle.std.proofs.lemmas.Option.{same_Some, slice_get_within}
use Rattle.itv_base.specs.declared.names.EventId.{EventId}
use Rattle.itv_base.proofs.Integers.{lt_from_test, le_from_no_test, no_test_from_le, test_from_lt}
use Rattle.event_graph.specs.Network.{IsNet, Net}
use Rattle.event_graph.specs.Times.{time_of}
use Rattle.falling.specs.declared.line.FallLine.{FallLine}
use Rattle.falling.specs.Cap.{enough_turns, far_line, widest_end}
use Rattle.falling.specs.DerivationEnds.{IsSpent}
use Rattle.falling.specs.Step.DerivationEnds.{HasEnded, HasSettled}
use Rattle.falling.specs.Fallen.{HasSpentTurns, IsClosedAt, IsShownInconsistent, IsShownUnbounded}
use Rattle.falling.specs.Kinds.{IsPlain}
use Rattle.falling.specs.Rays.{IsApartBy, IsGapAt}
use Rattle.falling.specs.Step.Rays.{HaveAbove}
use Rattle.falling.proofs.Bounding.{ended_is_inconsistent}
use Rattle.falling.proofs.Climbing.{level_below_far}
use Rattle.falling.proofs.Closing.{gap_is_ray, settled_closes}
use Rattle.falling.proofs.Counting.{length-derived, not_ended_is_short}

pub closed_answer : (net : Net) (from to : EventId) (turns : ℕ) (lines : List FallLine) (values : List ℤ) (value : ℤ) → IsNet net → IsPlain net → from.0 < net.events → to.0 < net.events
    → HasSettled net from turns lines values → value ≡ time_of values to → time_of values to <ℤ pos (far_line net) → IsClosedAt net from to value lines values
closed_answer net from to turns lines values value is_net plain in_from in_to settled is below =
    let closes = settled_closes net from to lines values is_net plain in_from in_to settled.derivation settled.not_ended settled.settled in
    rw is (record {
      greatest = closes.2 below;
      satisfies = closes.0;
      attained = from_zero (time_of values from) (time_of values to) closes.1;
      derivation = settled.derivation;
      derived = refl;
    }) where
      from_zero : (a b : ℤ) → a ≡ pos 0 → (b -ℤ a) ≡ b
      from_zero a b e = omega (arith, ints)

pub ended_answer : (net : Net) (from : EventId) (turns : ℕ) (lines : List FallLine) (values : List ℤ) → IsNet net → from.0 < net.events → HasEnded net from turns lines values
    → IsShownInconsistent net from lines
ended_answer net from turns lines values is_net in_from ended = record {
  none = ended_is_inconsistent net from lines values is_net in_from ended.derivation ended.ended;
  derivation = (values, ended.derivation, ended.ended);
}

pub spent_answer : (net : Net) (from : EventId) (turns : ℕ) (lines : List FallLine) (values : List ℤ) → IsNet net → from.0 < net.events → IsSpent net from turns lines values
    → HasSpentTurns net from turns lines values
spent_answer net from turns lines values is_net in_from spent = record {
  spent = spent;
  few = subst (λ n. n < enough_turns net) spent.count (not_ended_is_short net from lines values is_net in_from spent.derivation spent.not_ended);
}

-- values with a gap above a level: the values beyond the level are apart
apart_at : (width : ℕ) (level : ℤ) (values : List ℤ) (flags : List Bool) → IsGapAt (pos width) level values → HaveAbove level values flags → IsApartBy width flags values
apart_at width level values flags gap marked low high at_low at_high =
    let in_low : low.0 < length values = omega (arith, slice_get_within flags low.0 false at_low, marked.count) in
    let in_high : high.0 < length values = omega (arith, slice_get_within flags high.0 true at_high, marked.count) in
    let is_low : int_lt level (time_of values low) ≡ false = same_Some _ _ (sym (marked.each low.0 in_low) ∙ at_low) in
    let is_high : int_lt level (time_of values high) ≡ true = same_Some _ _ (sym (marked.each high.0 in_high) ∙ at_high) in
    apart_of level (time_of values low) (time_of values high) (le_from_no_test level (time_of values low) is_low) (lt_from_test level (time_of values high) is_high)
    (gap high.0 (pos 0) in_high) where
      apart_of : (level low high : ℤ) → low ≤ℤ level → level <ℤ high → (high ≤ℤ level) ⊎ ((level +ℤ pos width) <ℤ high) → (low +ℤ pos width) <ℤ high
      apart_of level low high le less (inl not) = absurd (omega (arith, ints))
      apart_of level low high le less (inr wide) = omega (arith, ints)

pub unbounded_answer : (net : Net) (from to : EventId) (turns : ℕ) (lines : List FallLine) (values : List ℤ) (width level : ℤ) (flags : List Bool) → IsNet net → IsPlain net
    → from.0 < net.events → to.0 < net.events → HasSettled net from turns lines values → width ≡ pos (widest_end net) → pos (far_line net) ≤ℤ time_of values to → IsGapAt width level values → pos 0 ≤ℤ level
    → level ≤ℤ pos (net.events * widest_end net) → HaveAbove level values flags → IsShownUnbounded net from to lines values flags
unbounded_answer net from to turns lines values width level flags is_net plain in_from in_to settled is_width far gap low high marked =
    let closes = settled_closes net from to lines values is_net plain in_from in_to settled.derivation settled.not_ended settled.settled in
    let count : length values ≡ net.events = length-derived net from lines values is_net settled.derivation in
    let below : level <ℤ pos (far_line net) = level_below_far net level (omega arith) high in
    let holds : int_lt level (time_of values to) ≡ true = test_from_lt level (time_of values to) (beyond level (pos (far_line net)) (time_of values to) below far) in
    let lacks : int_lt level (time_of values from) ≡ false = no_test_from_le level (time_of values from) (at_most level (time_of values from) closes.1 low) in
    record {
      satisfies = closes.0;
      raised = gap_is_ray net from to flags values is_net closes.0 (marked.count ∙ count) (marked.each to.0 (omega arith) ∙ ap Some holds)
          (marked.each from.0 (omega arith) ∙ ap Some lacks)
          (apart_at (widest_end net) level values flags (subst (λ w. IsGapAt w level values) is_width gap) marked);
      derivation = settled.derivation;
    } where
      beyond : (a b c : ℤ) → a <ℤ b → b ≤ℤ c → a <ℤ c
      beyond a b c p q = omega (arith, ints)

      at_most : (level zero_time : ℤ) → zero_time ≡ pos 0 → pos 0 ≤ℤ level → zero_time ≤ℤ level
      at_most level zero_time e p = omega (arith, ints)
