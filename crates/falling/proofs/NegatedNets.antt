-- The negation of a network, and what its answers say of the network.
use Rattle.std.proofs.Common.{◌≡◌, ◌+◌, ◌*◌, ◌<◌, ◌≤◌, ◌⊎◌, inl, inr, ℕ, zero, suc, ℤ, pos, negsuc, neg_ℤ, unsigned_abs, max, ◌+ℤ◌, Bool, true, false, not, List, [], ◌∷◌, All, length, map, Option, Some, None, option_map, slice_get, sym, ap, ◌∙◌, refl, subst, arith}
use Rattle.std.proofs.lemmas.Int.{ints}
use Rattle.std.proofs.lemmas.Option.{slice_get-map}
use Rattle.itv_base.specs.declared.names.EventId.{EventId}
use Rattle.itv_base.specs.declared.names.RuleKind.TheVariants.{Early}
use Rattle.itv_base.specs.Range.{IsEnd}
use Rattle.itv_base.proofs.Options.{mapped_some, then_some}
use Rattle.event_graph.specs.declared.cause.Cause.{Cause}
use Rattle.event_graph.specs.Bounds.{IsInconsistent, IsRay}
use Rattle.event_graph.specs.Limits.{weight_limit}
use Rattle.event_graph.specs.Network.{Constraint, IsNet, Net, IsConstraint, AreEnds, cause_at}
use Rattle.event_graph.specs.Satisfying.{Satisfies}
use Rattle.event_graph.specs.Times.{raised, shifted}
use Rattle.event_graph.proofs.Shifting.{shift_keeps_satisfying}
use Rattle.falling.specs.declared.answer.Fallen.{Fallen}
use Rattle.falling.specs.declared.answer.Fallen.TheVariants.{Closed, Inconsistent, Spent, Unbounded}
use Rattle.falling.specs.declared.line.FallLine.{FallLine}
use Rattle.falling.specs.declared.limits.Limits.{Limits}
use Rattle.falling.specs.Cap.{IsNearValue, cap, cap_limit, end_size, widest_end, widest_of, widest_of_causes}
use Rattle.falling.specs.DerivationEnds.{AreLimits}
use Rattle.falling.specs.Derivation.{IsDerivation}
use Rattle.falling.specs.Fallen.{IsFallenAnswer, IsClosedAt, IsShownInconsistent, IsShownUnbounded, asked_of}
use Rattle.falling.specs.Kinds.{IsPlain, negated, negated_cause, negated_constraint, negated_times}
use Rattle.falling.specs.Step.Kinds.{IsNegatable}
use Rattle.falling.specs.Solving.{AnswersByNegation, IsClosedByNegation, IsInconsistentByNegation, IsUnboundedByNegation}
use Rattle.falling.proofs.Bounding.{ended_is_inconsistent}
use Rattle.falling.proofs.Choosing.{first_choice-negated}
use Rattle.falling.proofs.Deriving.{derived_most, near_values}
use Rattle.falling.proofs.Negating.{length-mapped, negation_reverses_greatest, satisfies_from, satisfies_turns, separation-negated, all_map}
use Rattle.falling.proofs.Collecting.{count_turns}

size-negated : (end : Option ℤ) → end_size (option_map neg_ℤ end) ≡ end_size end
size-negated None = refl
size-negated (Some end) = abs_of end where
  abs_of : (z : ℤ) → unsigned_abs (neg_ℤ z) ≡ unsigned_abs z
  abs_of (pos zero) = refl
  abs_of (pos (suc n)) = refl
  abs_of (negsuc n) = refl

causes-negated : (cs : List Cause) → widest_of_causes (map negated_cause cs) ≡ widest_of_causes cs
causes-negated [] = refl
causes-negated (c ∷ cs) = rw (size-negated c.range.high, size-negated c.range.low, causes-negated cs) (swapped (end_size c.range.high) (end_size c.range.low) (widest_of_causes cs)) where
  swapped : (a b w : ℕ) → max (max a b) w ≡ max (max b a) w
  swapped a b w = grind arith

constraints-negated : (ks : List Constraint) → widest_of (map negated_constraint ks) ≡ widest_of ks
constraints-negated [] = refl
constraints-negated (k ∷ ks) = rw (causes-negated k.causes, constraints-negated ks) refl

-- the negation has the widest end of the network, and so its cap and its far line
pub widest-negated : (net : Net) → widest_end (negated net) ≡ widest_end net
widest-negated net = constraints-negated net.constraints

limits_at : (events width other : ℕ) (limits : Limits) → other ≡ width → limits.cap ≡ pos (2 * events * (width + 1)) → limits.far ≡ pos (events * (width + 1)) → limits.width ≡ pos width
    → limits.lowest ≡ neg_ℤ (pos (events * (width + 1))) → 2 * events * (width + 1) ≤ cap_limit → width ≤ weight_limit
    → (limits.cap ≡ pos (2 * events * (other + 1))) × (limits.far ≡ pos (events * (other + 1))) × (limits.width ≡ pos other)
    × (limits.lowest ≡ neg_ℤ (pos (events * (other + 1)))) × (2 * events * (other + 1) ≤ cap_limit) × (other ≤ weight_limit)
limits_at events width other limits e p q r s t u = rw e (p, q, r, s, t, u)

pub limits_negated : (net : Net) (limits : Limits) → AreLimits net limits → AreLimits (negated net) limits
limits_negated net limits are =
    let (p, q, r, s, t, u) = limits_at net.events (widest_end net) (widest_end (negated net)) limits (widest-negated net) are.cap_is are.far_is are.width_is are.lowest_is are.small are.small_width in
    record { cap_is = p; far_is = q; width_is = r; lowest_is = s; small = t; small_width = u }

-- the negation of a negatable network is plain
pub plain_negated : (net : Net) → IsNegatable net → IsPlain (negated net)
plain_negated net negatable = first_choice-negated Early net ∙ negatable

-- where no times satisfy the negation, none satisfy the network
pub inconsistent_from : (net : Net) → IsInconsistent (negated net) → IsInconsistent net
inconsistent_from net none times h = none (negated_times times) (satisfies_turns net times h)

-- ---- the other events rise where the times are negated

negated_raised : (set : List Bool) (by : ℕ) (values : List ℤ) → length set ≡ length values
    → shifted (negated_times (raised set by values)) (pos by) ≡ raised (map not set) by (negated_times values)
negated_raised [] by [] same = refl
negated_raised [] by (value ∷ values) same = absurd (omega arith)
negated_raised (is_in ∷ set) by [] same = absurd (omega arith)
negated_raised (true ∷ set) by (value ∷ values) same = rw (negated_raised set by values (omega arith), back value by) refl where
  back : (z : ℤ) (n : ℕ) → (neg_ℤ (z +ℤ pos n) +ℤ pos n) ≡ neg_ℤ z
  back z n = omega (arith, ints)
negated_raised (false ∷ set) by (value ∷ values) same = rw (negated_raised set by values (omega arith)) refl

flag-not : (set : List Bool) (i : ℕ) (flag : Bool) → slice_get set i ≡ Some flag → slice_get (map not set) i ≡ Some (not flag)
flag-not [] i flag at = absurd (cc)
flag-not (b ∷ set) zero flag at = ap (λ x. Some (not x)) (same_of b flag at) where
  same_of : (a b : Bool) → Some a ≡ Some b → a ≡ b
  same_of a b e = cc
flag-not (b ∷ set) (suc i) flag at = flag-not set i flag at

raised_none : (set : List Bool) (values : List ℤ) → length (raised set 0 values) ≡ length values
raised_none [] values = refl
raised_none (b ∷ set) [] = refl
raised_none (b ∷ set) (value ∷ values) = ap suc (raised_none set values)

-- a ray of the negation gives a ray of the network, with the other events
pub ray_from : (net : Net) (from to : EventId) (values : List ℤ) (set : List Bool) → IsNet net → IsRay (negated net) to from values set
    → IsRay net from to (negated_times values) (map not set)
ray_from net from to values set is_net ray =
    let same : length set ≡ length values = ray.count ∙ (sym (ray.satisfies 0).count ∙ raised_none set values) in
    record {
      count = length-mapped not set ∙ ray.count;
      holds = flag-not set to.0 false ray.lacks;
      lacks = flag-not set from.0 true ray.holds;
      satisfies = λ by.
          let turned : Satisfies (negated_times (raised set by values)) net = satisfies_from net (raised set by values) (ray.satisfies by) in
          let moved : Satisfies (shifted (negated_times (raised set by values)) (pos by)) net = (shift_keeps_satisfying net (negated_times (raised set by values)) (pos by) is_net).0 turned in
          subst (λ (t : List ℤ). Satisfies t net) (negated_raised set by values same) moved;
    }

-- ---- answers

pub closed_from : (net : Net) (from to : EventId) (value : ℤ) (lines : List FallLine) (values : List ℤ) → IsNet net → IsClosedAt (negated net) to from value lines values
    → IsClosedByNegation net from to value lines (negated_times values)
closed_from net from to value lines values is_net closed = record {
  greatest = (negation_reverses_greatest net from to value is_net).1 closed.greatest;
  satisfies = satisfies_from net values closed.satisfies;
  attained = separation-negated values to from ∙ closed.attained;
  derivation = (values, closed.derivation, refl, closed.derived);
}

pub unbounded_from : (net : Net) (from to : EventId) (lines : List FallLine) (values : List ℤ) (ray : List Bool) → IsNet net → IsShownUnbounded (negated net) to from lines values ray
    → IsUnboundedByNegation net from to lines (negated_times values) (map not ray)
unbounded_from net from to lines values ray is_net shown = record {
  satisfies = satisfies_from net values shown.satisfies;
  raised = ray_from net from to values ray is_net shown.raised;
  derivation = (values, shown.derivation, refl);
}

pub inconsistent_answer : (net : Net) (to : EventId) (lines : List FallLine) → IsShownInconsistent (negated net) to lines → IsInconsistentByNegation net to lines
inconsistent_answer net to lines shown = record { none = inconsistent_from net shown.none; derivation = shown.derivation }

-- ---- the values of a derivation that satisfy are near

pub satisfying_near : (net : Net) (from : EventId) (lines : List FallLine) (values : List ℤ) → IsNet net → from.0 < net.events → cap net ≤ cap_limit → IsDerivation net from lines values
    → Satisfies values net → All IsNearValue values
satisfying_near net from lines values is_net in_from small derivation satisfies =
    near_values net from values small (λ ended. ended_is_inconsistent net from lines values is_net in_from derivation ended values satisfies)
    (derived_most net from lines values is_net derivation)

-- an answer that has times
abbrev pub HasTimes : Fallen → Type 0
HasTimes (Closed value) = Unit {0}
HasTimes Unbounded = Unit {0}
HasTimes Inconsistent = ⊥
HasTimes Spent = ⊥

pub near_answer : (net : Net) (from to : EventId) (turns : ℕ) (lines : List FallLine) (values : List ℤ) (ray : List Bool) (fallen : Fallen) → IsNet net → from.0 < net.events
    → cap net ≤ cap_limit → HasTimes fallen → IsFallenAnswer net (asked_of from to turns) lines values ray fallen → All IsNearValue values
near_answer net from to turns lines values ray (Closed value) is_net in_from small has h = satisfying_near net from lines values is_net in_from small h.derivation h.satisfies
near_answer net from to turns lines values ray Unbounded is_net in_from small has h = satisfying_near net from lines values is_net in_from small h.derivation h.satisfies
near_answer net from to turns lines values ray Inconsistent is_net in_from small has h = absurd has
near_answer net from to turns lines values ray Spent is_net in_from small has h = absurd has

answer_of : (net : Net) (from to : EventId) (turns : ℕ) (lines : List FallLine) (values : List ℤ) (ray : List Bool) (fallen : Fallen) → IsNet net → HasTimes fallen
    → IsFallenAnswer (negated net) (asked_of to from turns) lines values ray fallen → AnswersByNegation net (asked_of from to turns) lines (negated_times values) (map not ray) fallen
answer_of net from to turns lines values ray (Closed value) is_net has h = closed_from net from to value lines values is_net h
answer_of net from to turns lines values ray Unbounded is_net has h = unbounded_from net from to lines values ray is_net h
answer_of net from to turns lines values ray Inconsistent is_net has h = absurd has
answer_of net from to turns lines values ray Spent is_net has h = absurd has

pub turned_answer : (negation : Net) (from to : EventId) (turns : ℕ) (lines : List FallLine) (values times : List ℤ) (ray flags : List Bool) (fallen : Fallen) → HasTimes fallen
    → IsFallenAnswer negation (asked_of to from turns) lines values ray fallen → times ≡ negated_times values → flags ≡ map not ray
    → (net : Net) → IsNet net → negation ≡ negated net → AnswersByNegation net (asked_of from to turns) lines times flags fallen
turned_answer negation from to turns lines values times ray flags fallen has h is_times is_flags net is_net is =
    rw (is_times, is_flags) (answer_of net from to turns lines values ray fallen is_net has (subst (λ (n : Net). IsFallenAnswer n (asked_of to from turns) lines values ray fallen) is h))

other_of : (net : Net) (from to : EventId) (turns : ℕ) (lines : List FallLine) (values : List ℤ) (ray : List Bool) (fallen : Fallen) → (HasTimes fallen → ⊥)
    → IsFallenAnswer (negated net) (asked_of to from turns) lines values ray fallen → AnswersByNegation net (asked_of from to turns) lines values ray fallen
other_of net from to turns lines values ray (Closed value) none h = absurd (none tt)
other_of net from to turns lines values ray Unbounded none h = absurd (none tt)
other_of net from to turns lines values ray Inconsistent none h = inconsistent_answer net to lines h
other_of net from to turns lines values ray Spent none h = record {
  spent = (values, h.spent);
  few = subst (λ w. turns < net.events * (3 * net.events * (w + 1) + 1)) (widest-negated net) h.few;
}

pub other_answer : (negation : Net) (from to : EventId) (turns : ℕ) (lines : List FallLine) (values : List ℤ) (ray : List Bool) (fallen : Fallen) → (HasTimes fallen → ⊥)
    → IsFallenAnswer negation (asked_of to from turns) lines values ray fallen → (net : Net) → IsNet net → negation ≡ negated net → AnswersByNegation net (asked_of from to turns) lines values ray fallen
other_answer negation from to turns lines values ray fallen none h net is_net is =
    other_of net from to turns lines values ray fallen none (subst (λ (n : Net). IsFallenAnswer n (asked_of to from turns) lines values ray fallen) is h)

pub has_times : (fallen : Fallen) → ((x : ℤ) × (fallen ≡ Closed x)) ⊎ (fallen ≡ Unbounded) → HasTimes fallen
has_times fallen (inl (x, is)) = rw is tt
has_times fallen (inr is) = rw is tt

pub no_times : (fallen : Fallen) → (fallen ≡ Inconsistent) ⊎ (fallen ≡ Spent) → HasTimes fallen → ⊥
no_times fallen (inl is) has = subst HasTimes is has
no_times fallen (inr is) has = subst HasTimes is has

pub end_negated : (end : Option ℤ) → IsEnd end → IsEnd (option_map neg_ℤ end)
end_negated None h = tt
end_negated (Some value) h = (omega (arith, ints), omega (arith, ints))

pub constraint_negated : (events : ℕ) (k : Constraint) → IsConstraint events k → IsConstraint events (negated_constraint k)
constraint_negated events k is = record {
  target = is.target;
  causes = all_map negated_cause (λ (c : Cause). c.event.0 < events) (λ (c : Cause). c.event.0 < events) k.causes (λ c h. h) is.causes;
  count = rw (length-mapped negated_cause k.causes) (count_turns k.kind (length k.causes) is.count);
}

-- an element of a list that was mapped
pub mapped_at : {X Y : Type 0} (f : X → Y) (xs : List X) (i : ℕ) (y : Y) → slice_get (map f xs) i ≡ Some y → (x : X) × (slice_get xs i ≡ Some x) × (f x ≡ y)
mapped_at f xs i y at = mapped_some f (slice_get xs i) y (sym (slice_get-map f xs i) ∙ at)

pub ends_negated : (net : Net) (number cause : ℕ) (c : Cause) → IsNet net → cause_at (negated net) number cause ≡ Some c → AreEnds c.range
ends_negated net number cause c is_net at =
    let (turned, at_turned, rest) = then_some _ (slice_get (negated net).constraints number) c at in
    let (k, at_k, is_turned) = mapped_at negated_constraint net.constraints number turned at_turned in
    let at_cause : slice_get (negated_constraint k).causes cause ≡ Some c = subst (λ (t : Constraint). slice_get t.causes cause ≡ Some c) (sym is_turned) rest in
    let (d, at_d, is_c) = mapped_at negated_cause k.causes cause c at_cause in
    let there : cause_at net number cause ≡ Some d = rw (at_k, at_d) refl in
    let ends : AreEnds d.range = is_net.ends number cause d there in
    subst (λ (x : Cause). AreEnds x.range) is_c (end_negated d.range.high ends.1, end_negated d.range.low ends.0)

pub net_negated : (net : Net) → IsNet net → IsNet (negated net)
net_negated net is_net = record {
  events = is_net.events;
  constraints = all_map negated_constraint (IsConstraint net.events) (IsConstraint net.events) net.constraints (constraint_negated net.events) is_net.constraints;
  count = rw (length-mapped negated_constraint net.constraints) is_net.count;
  ends = λ number cause c at. ends_negated net number cause c is_net at;
}
