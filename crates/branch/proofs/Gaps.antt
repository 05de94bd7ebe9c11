-- A gap across which no finite end of a range reaches.
use Rattle.std.proofs.Common.{◌≡◌, ◌<◌, ℕ, zero, suc, ℤ, pos, ◌+ℤ◌, ◌≤ℤ◌, ◌<ℤ◌, Bool, true, false, List, [], ◌∷◌, length, get_or, All, Any, Option, Some, None, IfSome, slice_get, refl, sym, ap, ◌∙◌, subst, arith}
use Rattle.std.proofs.lemmas.Int.{ints}
use Rattle.std.proofs.lemmas.Option.{slice_get-get_or}
use Rattle.itv_base.specs.Range.{IsEnd}
use Rattle.itv_base.specs.declared.names.EventId.{EventId}
use Rattle.itv_base.specs.declared.names.RuleKind.{RuleKind}
use Rattle.itv_base.specs.declared.names.RuleKind.TheVariants.{Lin, Late, Early}
use Rattle.event_graph.specs.declared.cause.Cause.{Cause}
use Rattle.event_graph.specs.Bounds.{IsRay}
use Rattle.event_graph.specs.Network.{Constraint, IsConstraint, IsNet, Net}
use Rattle.event_graph.specs.Satisfying.{HoldsAs, IsAfter, IsBefore, Satisfies}
use Rattle.event_graph.specs.Times.{raised, time_of}
use Rattle.event_graph.proofs.EdgesMet.{All-found}
use Rattle.event_graph.specs.Limits.{weight_limit}
use Rattle.event_graph.proofs.Causes.{cause_is}
use Rattle.event_graph.proofs.Rays.{length-raised}
use Rattle.branch.specs.Step.Raising.{IsRaisedApart, raised_to}

-- the time of an event, raised or not
pub time_of-raised : (set : List Bool) (by : ℕ) (times : List ℤ) (event : ℕ) (flag : Bool) → slice_get set event ≡ Some flag → event < length times
    → time_of (raised set by times) (record { 0 = event }) ≡ raised_to flag (time_of times (record { 0 = event })) by
time_of-raised [] by times event flag at within = absurd (cc)
time_of-raised (is_in ∷ set) by [] event flag at within = absurd (omega arith)
time_of-raised (true ∷ set) by (time ∷ times) zero true at within = refl
time_of-raised (true ∷ set) by (time ∷ times) zero false at within = absurd (cc)
time_of-raised (false ∷ set) by (time ∷ times) zero true at within = absurd (cc)
time_of-raised (false ∷ set) by (time ∷ times) zero false at within = refl
time_of-raised (is_in ∷ set) by (time ∷ times) (suc event) flag at within = time_of-raised set by times event flag at (omega arith)

-- raised times meet an end that the times met before, unless the end reaches down across the gap
after_raised : (low : Option ℤ) (cause target : ℤ) (in_cause in_target : Bool) (by : ℕ) → IsEnd low
    → (in_target ≡ false → in_cause ≡ true → (target +ℤ pos weight_limit) <ℤ cause)
    → IfSome low (λ l. (cause +ℤ l) ≤ℤ target) → IfSome low (λ l. (raised_to in_cause cause by +ℤ l) ≤ℤ raised_to in_target target by)
after_raised None cause target in_cause in_target by end gap met = tt
after_raised (Some l) cause target true true by end gap met = omega (arith, ints)
after_raised (Some l) cause target true false by end gap met = let past = gap refl refl in absurd (omega (arith, ints))
after_raised (Some l) cause target false true by end gap met = omega (arith, ints)
after_raised (Some l) cause target false false by end gap met = met

before_raised : (high : Option ℤ) (cause target : ℤ) (in_cause in_target : Bool) (by : ℕ) → IsEnd high
    → (in_cause ≡ false → in_target ≡ true → (cause +ℤ pos weight_limit) <ℤ target)
    → IfSome high (λ l. target ≤ℤ (cause +ℤ l)) → IfSome high (λ l. raised_to in_target target by ≤ℤ (raised_to in_cause cause by +ℤ l))
before_raised None cause target in_cause in_target by end gap met = tt
before_raised (Some l) cause target true true by end gap met = omega (arith, ints)
before_raised (Some l) cause target true false by end gap met = omega (arith, ints)
before_raised (Some l) cause target false true by end gap met = let past = gap refl refl in absurd (omega (arith, ints))
before_raised (Some l) cause target false false by end gap met = met

-- if one statement gives another for each cause, it does so for all causes together, and for some cause
all_kept : (P Q : Cause → Type 0) (causes : List Cause) → ((i : ℕ) (c : Cause) → slice_get causes i ≡ Some c → P c → Q c) → All P causes → All Q causes
all_kept P Q causes kept all = λ i d within. kept i (get_or causes i d) (slice_get-get_or causes i d within) (all i d within)

any_kept : (P Q : Cause → Type 0) (causes : List Cause) → ((i : ℕ) (c : Cause) → slice_get causes i ≡ Some c → P c → Q c) → Any P causes → Any Q causes
any_kept P Q causes kept (i, c, within, here, holds) =
    (i, c, within, here, kept i c (slice_get-get_or causes i c within ∙ ap Some here) holds)

-- the flag of an event
flag_of : (set : List Bool) (event : ℕ) → event < length set → (flag : Bool) × (slice_get set event ≡ Some flag)
flag_of set event within = (get_or set event false, slice_get-get_or set event false within)

-- if the set is apart in the times, the raised times keep both sides of each cause that held before
module _ (set : List Bool) (by : ℕ) (times : List ℤ) (target : EventId) (count : length set ≡ length times) (apart : IsRaisedApart set times) (within : target.0 < length times) where
  after_kept : (c : Cause) → c.event.0 < length times → IsEnd c.range.low → IsAfter times target c → IsAfter (raised set by times) target c
  after_kept c event end after =
      let cause_flag = flag_of set c.event.0 (omega arith) in
      let target_flag = flag_of set target.0 (omega arith) in
      let cause_time = time_of-raised set by times c.event.0 cause_flag.0 cause_flag.1 event in
      let target_time = time_of-raised set by times target.0 target_flag.0 target_flag.1 within in
      let gap : target_flag.0 ≡ false → cause_flag.0 ≡ true → (time_of times target +ℤ pos weight_limit) <ℤ time_of times c.event =
      λ out in_set. apart target c.event (target_flag.1 ∙ ap Some out) (cause_flag.1 ∙ ap Some in_set) in
      let met = after_raised c.range.low (time_of times c.event) (time_of times target) cause_flag.0 target_flag.0 by end gap after in
      let P : ℤ → ℤ → Type 0 = λ cause at. IfSome c.range.low (λ l. (cause +ℤ l) ≤ℤ at) in
      subst (λ at. P (time_of (raised set by times) c.event) at) (sym target_time)
      (subst (λ cause. P cause (raised_to target_flag.0 (time_of times target) by)) (sym cause_time) met)

  before_kept : (c : Cause) → c.event.0 < length times → IsEnd c.range.high → IsBefore times target c → IsBefore (raised set by times) target c
  before_kept c event end before =
      let cause_flag = flag_of set c.event.0 (omega arith) in
      let target_flag = flag_of set target.0 (omega arith) in
      let cause_time = time_of-raised set by times c.event.0 cause_flag.0 cause_flag.1 event in
      let target_time = time_of-raised set by times target.0 target_flag.0 target_flag.1 within in
      let gap : cause_flag.0 ≡ false → target_flag.0 ≡ true → (time_of times c.event +ℤ pos weight_limit) <ℤ time_of times target =
      λ out in_set. apart c.event target (cause_flag.1 ∙ ap Some out) (target_flag.1 ∙ ap Some in_set) in
      let met = before_raised c.range.high (time_of times c.event) (time_of times target) cause_flag.0 target_flag.0 by end gap before in
      let P : ℤ → ℤ → Type 0 = λ cause at. IfSome c.range.high (λ l. at ≤ℤ (cause +ℤ l)) in
      subst (λ at. P (time_of (raised set by times) c.event) at) (sym target_time)
      (subst (λ cause. P cause (raised_to target_flag.0 (time_of times target) by)) (sym cause_time) met)

  holds_raised : (kind : RuleKind) (causes : List Cause) → ((i : ℕ) (c : Cause) → slice_get causes i ≡ Some c → (c.event.0 < length times) × IsEnd c.range.low × IsEnd c.range.high)
      → HoldsAs kind times target causes → HoldsAs kind (raised set by times) target causes
  holds_raised Lin causes each holds = (
    all_kept (IsAfter times target) (IsAfter (raised set by times) target) causes (λ i c at. let has = each i c at in after_kept c has.0 has.1) holds.0,
    all_kept (IsBefore times target) (IsBefore (raised set by times) target) causes (λ i c at. let has = each i c at in before_kept c has.0 has.2) holds.1,
  )
  holds_raised Late causes each holds = (
    all_kept (IsAfter times target) (IsAfter (raised set by times) target) causes (λ i c at. let has = each i c at in after_kept c has.0 has.1) holds.0,
    any_kept (IsBefore times target) (IsBefore (raised set by times) target) causes (λ i c at. let has = each i c at in before_kept c has.0 has.2) holds.1,
  )
  holds_raised Early causes each holds = (
    all_kept (IsBefore times target) (IsBefore (raised set by times) target) causes (λ i c at. let has = each i c at in before_kept c has.0 has.2) holds.0,
    any_kept (IsAfter times target) (IsAfter (raised set by times) target) causes (λ i c at. let has = each i c at in after_kept c has.0 has.1) holds.1,
  )

pub satisfies_raised : (net : Net) (set : List Bool) (by : ℕ) (times : List ℤ) → IsNet net → length set ≡ net.events → IsRaisedApart set times → Satisfies times net
    → Satisfies (raised set by times) net
satisfies_raised net set by times is_net count apart satisfies = record {
  count = length-raised set by times ∙ satisfies.count;
  each = λ number d within.
      let k : Constraint = get_or net.constraints number d in
      let at_k : slice_get net.constraints number ≡ Some k = slice_get-get_or net.constraints number d within in
      let is_k : IsConstraint net.events k = is_net.constraints number d within in
      let same : length times ≡ net.events = satisfies.count in
      let target : k.target.0 < length times = omega (arith, is_k.target) in
      holds_raised set by times k.target (count ∙ sym same) apart target k.kind k.causes
      (λ i c at.
      let has = is_net.ends number i c (cause_is net number i k c at_k at) in
      let event : c.event.0 < net.events = All-found (λ (cause : Cause). cause.event.0 < net.events) k.causes i c at is_k.causes in
      (omega arith, has.0, has.1))
      (satisfies.each number d within);
}

-- if times satisfy and a set is apart in them, the set is a ray from the times
pub apart_is_ray : (net : Net) (from to : EventId) (set : List Bool) (times : List ℤ) → IsNet net → length set ≡ net.events
    → slice_get set to.0 ≡ Some true → slice_get set from.0 ≡ Some false → IsRaisedApart set times → Satisfies times net → IsRay net from to times set
apart_is_ray net from to set times is_net count holds lacks apart satisfies = record {
  count = count;
  holds = holds;
  lacks = lacks;
  satisfies = λ by. satisfies_raised net set by times is_net count apart satisfies;
}
