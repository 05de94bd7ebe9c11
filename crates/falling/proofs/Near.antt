-- Times that keep the separations up to a width.
use Rattle.std.proofs.Common.{◌≡◌, ◌<◌, ◌≤◌, ◌⊎◌, inl, inr, ℕ, zero, suc, ℤ, pos, negsuc, neg_ℤ, unsigned_abs, ◌+ℤ◌, ◌-ℤ◌, ◌≤ℤ◌, ◌<ℤ◌, Bool, true, false, if◌then◌else◌, int_le, List, [], ◌∷◌, All, Any, length, get_or, Option, Some, None, IfSome, ◌∙◌, refl, subst, arith}
use Rattle.std.proofs.lemmas.Int.{ints}
use Rattle.std.proofs.lemmas.List.{get_or-map, length-map}
use Rattle.std.proofs.lemmas.List.Elements.{All-weaker}
use Rattle.itv_base.specs.declared.names.EventId.{EventId}
use Rattle.itv_base.specs.declared.names.RuleKind.{RuleKind}
use Rattle.itv_base.specs.declared.names.RuleKind.TheVariants.{Lin, Late, Early}
use Rattle.event_graph.specs.declared.cause.Cause.{Cause}
use Rattle.event_graph.specs.Network.{Constraint, IsConstraint, IsNet, Net}
use Rattle.event_graph.specs.Satisfying.{HoldsAs, IsAfter, IsBefore, Satisfies}
use Rattle.event_graph.specs.Times.{separation, time_of, IsTime}
use Rattle.event_graph.proofs.Shifting.{all_follow, any_follows}
use Rattle.falling.specs.Cap.{end_size, widest_end, widest_of, widest_of_causes, IsNearValue}
use Rattle.falling.specs.Gaps.{IsGapBeyond, with_gap}
use Rattle.falling.specs.Laws.{GapCanBeSet}

-- a separation up to a width stays, and a separation beyond the width stays at least the width
pub record IsKept (width : ℕ) (old new : ℤ) : Type 0 where
  pub near : pos 0 ≤ℤ old → old ≤ℤ pos width → new ≡ old
  pub wide : pos width <ℤ old → pos width ≤ℤ new

-- this holds for the separations of all pairs of events below a number
abbrev pub KeepsNear : ℕ → ℕ → List ℤ → List ℤ → Type 0
KeepsNear width events times others =
    (from to : EventId) → from.0 < events → to.0 < events → IsKept width (separation times from to) (separation others from to)

pub size_within : (z : ℤ) (width : ℕ) → unsigned_abs z ≤ width → (z ≤ℤ pos width) × (neg_ℤ (pos width) ≤ℤ z)
size_within (pos n) width h = (omega (arith, ints), omega (arith, ints))
size_within (negsuc n) width h = (omega (arith, ints), omega (arith, ints))

-- a number is below another, or at least the other
pub below_or_not : (a b : ℤ) → (a <ℤ b) ⊎ (b ≤ℤ a)
below_or_not a b = by_test (int_le b a) refl where
  by_test : (t : Bool) → int_le b a ≡ t → (a <ℤ b) ⊎ (b ≤ℤ a)
  by_test true e = inr (omega (arith, ints))
  by_test false e = inl (omega (arith, ints))

-- a separation that is at least a number within the width stays so
kept_least : (width : ℕ) (l a b a' b' : ℤ) → unsigned_abs l ≤ width → IsKept width (b -ℤ a) (b' -ℤ a') → IsKept width (a -ℤ b) (a' -ℤ b')
    → (a +ℤ l) ≤ℤ b → (a' +ℤ l) ≤ℤ b'
kept_least width l a b a' b' size kept back h =
    let within = size_within l width size in
    let most : l ≤ℤ pos width = within.0 in
    let least : neg_ℤ (pos width) ≤ℤ l = within.1 in
    elim (below_or_not (pos width) (b -ℤ a)) [
      | inl wide ↦ let new : pos width ≤ℤ (b' -ℤ a') = kept.wide wide in omega (arith, ints)
      | inr near ↦ elim (below_or_not (b -ℤ a) (pos 0)) [
        | inl less ↦ elim (below_or_not (pos width) (a -ℤ b)) [
          | inl far ↦ absurd (omega (arith, ints))
          | inr here ↦ let new : (a' -ℤ b') ≡ (a -ℤ b) = back.near (omega (arith, ints)) here in omega (arith, ints)
        ]
        | inr up ↦ let new : (b' -ℤ a') ≡ (b -ℤ a) = kept.near up near in omega (arith, ints)
      ]
    ]

-- and a separation that is at most a number within the width stays so
kept_most : (width : ℕ) (l a b a' b' : ℤ) → unsigned_abs l ≤ width → IsKept width (b -ℤ a) (b' -ℤ a') → IsKept width (a -ℤ b) (a' -ℤ b')
    → b ≤ℤ (a +ℤ l) → b' ≤ℤ (a' +ℤ l)
kept_most width l a b a' b' size kept back h =
    let within = size_within l width size in
    let most : l ≤ℤ pos width = within.0 in
    let least : neg_ℤ (pos width) ≤ℤ l = within.1 in
    elim (below_or_not (pos width) (a -ℤ b)) [
      | inl wide ↦ let new : pos width ≤ℤ (a' -ℤ b') = back.wide wide in omega (arith, ints)
      | inr near ↦ elim (below_or_not (a -ℤ b) (pos 0)) [
        | inl less ↦ elim (below_or_not (pos width) (b -ℤ a)) [
          | inl far ↦ absurd (omega (arith, ints))
          | inr here ↦ let new : (b' -ℤ a') ≡ (b -ℤ a) = kept.near (omega (arith, ints)) here in omega (arith, ints)
        ]
        | inr up ↦ let new : (a' -ℤ b') ≡ (a -ℤ b) = back.near up near in omega (arith, ints)
      ]
    ]

after_kept : (width : ℕ) (low : Option ℤ) (a b a' b' : ℤ) → end_size low ≤ width → IsKept width (b -ℤ a) (b' -ℤ a') → IsKept width (a -ℤ b) (a' -ℤ b')
    → IfSome low (λ l. (a +ℤ l) ≤ℤ b) → IfSome low (λ l. (a' +ℤ l) ≤ℤ b')
after_kept width None a b a' b' size kept back h = tt
after_kept width (Some l) a b a' b' size kept back h = kept_least width l a b a' b' size kept back h

before_kept : (width : ℕ) (high : Option ℤ) (a b a' b' : ℤ) → end_size high ≤ width → IsKept width (b -ℤ a) (b' -ℤ a') → IsKept width (a -ℤ b) (a' -ℤ b')
    → IfSome high (λ l. b ≤ℤ (a +ℤ l)) → IfSome high (λ l. b' ≤ℤ (a' +ℤ l))
before_kept width None a b a' b' size kept back h = tt
before_kept width (Some l) a b a' b' size kept back h = kept_most width l a b a' b' size kept back h

-- both ends of a cause are within a width
pub record IsWithin (width : ℕ) (c : Cause) : Type 0 where
  pub low : end_size c.range.low ≤ width
  pub high : end_size c.range.high ≤ width

within_causes : (causes : List Cause) (i : ℕ) (d : Cause) → i < length causes → IsWithin (widest_of_causes causes) (get_or causes i d)
within_causes [] i d within = absurd (omega arith)
within_causes (c ∷ cs) zero d within = record { low = omega arith; high = omega arith }
within_causes (c ∷ cs) (suc i) d within =
    let rest : IsWithin (widest_of_causes cs) (get_or cs i d) = within_causes cs i d (omega arith) in
    record { low = omega arith; high = omega arith }

causes_within : (ks : List Constraint) (i : ℕ) (d : Constraint) → i < length ks → widest_of_causes (get_or ks i d).causes ≤ widest_of ks
causes_within [] i d within = absurd (omega arith)
causes_within (k ∷ ks) zero d within = omega arith
causes_within (k ∷ ks) (suc i) d within = omega (arith, causes_within ks i d (omega arith))

-- the ends of each cause of a network are within its widest end
pub ends_within : (net : Net) (number i : ℕ) (d : Constraint) (c : Cause) → number < length net.constraints → i < length (get_or net.constraints number d).causes
    → IsWithin (widest_end net) (get_or (get_or net.constraints number d).causes i c)
ends_within net number i d c there within =
    let of_causes : IsWithin (widest_of_causes (get_or net.constraints number d).causes) (get_or (get_or net.constraints number d).causes i c) =
    within_causes (get_or net.constraints number d).causes i c within in
    let of_all : widest_of_causes (get_or net.constraints number d).causes ≤ widest_of net.constraints = causes_within net.constraints number d there in
    record { low = omega arith; high = omega arith }

-- a cause between events below a number, with its ends within a width
abbrev IsNearCause : ℕ → ℕ → Cause → Type 0
IsNearCause width events c = (c.event.0 < events) × IsWithin width c

holds_kept : (kind : RuleKind) (width events : ℕ) (times others : List ℤ) (target : EventId) (causes : List Cause) → KeepsNear width events times others
    → target.0 < events → All (IsNearCause width events) causes → HoldsAs kind times target causes → HoldsAs kind others target causes
holds_kept kind width events times others target causes keeps in_target in_causes =
    let after : (c : Cause) → IsNearCause width events c → IsAfter times target c → IsAfter others target c =
    λ c near h. after_kept width c.range.low _ _ _ _ near.1.low (keeps c.event target near.0 in_target) (keeps target c.event in_target near.0) h in
    let before : (c : Cause) → IsNearCause width events c → IsBefore times target c → IsBefore others target c =
    λ c near h. before_kept width c.range.high _ _ _ _ near.1.high (keeps c.event target near.0 in_target) (keeps target c.event in_target near.0) h in
    let all_after : All (IsAfter times target) causes → All (IsAfter others target) causes = all_follow _ _ _ causes in_causes after in
    let all_before : All (IsBefore times target) causes → All (IsBefore others target) causes = all_follow _ _ _ causes in_causes before in
    let any_after : Any (IsAfter times target) causes → Any (IsAfter others target) causes = any_follows _ _ _ causes in_causes after in
    let any_before : Any (IsBefore times target) causes → Any (IsBefore others target) causes = any_follows _ _ _ causes in_causes before in
    elim kind as (λ k. HoldsAs k times target causes → HoldsAs k others target causes) [
      | Lin ↦ λ h. (all_after h.0, all_before h.1)
      | Late ↦ λ h. (all_after h.0, any_before h.1)
      | Early ↦ λ h. (all_before h.0, any_after h.1)
    ]

-- times that keep the near separations of satisfying times satisfy
pub satisfies_kept : (net : Net) (times others : List ℤ) → IsNet net → length others ≡ net.events → KeepsNear (widest_end net) net.events times others
    → Satisfies times net → Satisfies others net
satisfies_kept net times others is_net count keeps h = record {
  count = count;
  each = λ k d within.
      let c : IsConstraint net.events (get_or net.constraints k d) = is_net.constraints k d within in
      holds_kept (get_or net.constraints k d).kind (widest_end net) net.events times others (get_or net.constraints k d).target (get_or net.constraints k d).causes
      keeps c.target (λ i e there. (c.causes i e there, ends_within net k i d e within there)) (h.each k d within);
}

pub keeps_in : (width m n : ℕ) (times others : List ℤ) → m ≡ n → KeepsNear width m times others → KeepsNear width n times others
keeps_in width m n times others e keeps = subst (λ k. KeepsNear width k times others) e keeps

-- ---- a gap that is made another number

-- a time from the upper value on is moved, an earlier one stays
abbrev IsMoved : ℤ → ℤ → ℤ → ℤ → Type 0
IsMoved upper by time result = ((upper ≤ℤ time) × (result ≡ time +ℤ by)) ⊎ ((time <ℤ upper) × (result ≡ time))

moved_is : (upper by time : ℤ) → IsMoved upper by time (if int_le upper time then time +ℤ by else time)
moved_is upper by time = by_test (int_le upper time) refl where
  by_test : (t : Bool) → int_le upper time ≡ t → IsMoved upper by time (if t then time +ℤ by else time)
  by_test true e = inl (omega (arith, ints), refl)
  by_test false e = inr (omega (arith, ints), refl)

-- the separation of two times on their sides of the gap
kept_on_sides : (width : ℕ) (lower upper gap a b a' b' : ℤ) → (lower +ℤ pos width) <ℤ upper → pos width ≤ℤ gap → (a ≤ℤ lower) ⊎ (upper ≤ℤ a) → (b ≤ℤ lower) ⊎ (upper ≤ℤ b)
    → IsMoved upper (gap -ℤ (upper -ℤ lower)) a a' → IsMoved upper (gap -ℤ (upper -ℤ lower)) b b' → IsKept width (b -ℤ a) (b' -ℤ a')
kept_on_sides width lower upper gap a b a' b' wide least side_a side_b (inl (up_a, at_a)) (inl (up_b, at_b)) =
    record { near = λ m n. omega (arith, ints); wide = λ m. omega (arith, ints) }
kept_on_sides width lower upper gap a b a' b' wide least side_a side_b (inl (up_a, at_a)) (inr (low_b, at_b)) =
    let in_b : b ≤ℤ lower = elim side_b [ inl low ↦ low | inr up ↦ absurd (omega (arith, ints)) ] in
    record { near = λ m n. absurd (omega (arith, ints)); wide = λ m. absurd (omega (arith, ints)) }
kept_on_sides width lower upper gap a b a' b' wide least side_a side_b (inr (low_a, at_a)) (inl (up_b, at_b)) =
    let in_a : a ≤ℤ lower = elim side_a [ inl low ↦ low | inr up ↦ absurd (omega (arith, ints)) ] in
    record { near = λ m n. absurd (omega (arith, ints)); wide = λ m. omega (arith, ints) }
kept_on_sides width lower upper gap a b a' b' wide least side_a side_b (inr (low_a, at_a)) (inr (low_b, at_b)) =
    record { near = λ m n. omega (arith, ints); wide = λ m. omega (arith, ints) }

keeps_with_gap : (width : ℕ) (times : List ℤ) (lower upper gap : ℤ) → IsGapBeyond width times lower upper → pos width ≤ℤ gap
    → KeepsNear width (length times) times (with_gap times lower upper gap)
keeps_with_gap width times lower upper gap beyond least from to in_from in_to =
    let f : ℤ → ℤ = λ (time : ℤ). if int_le upper time then time +ℤ (gap -ℤ (upper -ℤ lower)) else time in
    let at_from : time_of (with_gap times lower upper gap) from ≡ f (time_of times from) = get_or-map f times from.0 (pos 0) (pos 0) in_from in
    let at_to : time_of (with_gap times lower upper gap) to ≡ f (time_of times to) = get_or-map f times to.0 (pos 0) (pos 0) in_to in
    rw (at_from, at_to) (kept_on_sides width lower upper gap (time_of times from) (time_of times to) _ _ beyond.wide least (beyond.empty from.0 (pos 0) in_from)
    (beyond.empty to.0 (pos 0) in_to) (moved_is upper (gap -ℤ (upper -ℤ lower)) (time_of times from)) (moved_is upper (gap -ℤ (upper -ℤ lower)) (time_of times to)))

pub gap_can_be_set : GapCanBeSet
gap_can_be_set net times lower upper gap is_net h beyond least =
    let width : ℕ = widest_end net in
    satisfies_kept net times (with_gap times lower upper gap) is_net (length-map times _ ∙ h.count)
    (keeps_in _ _ _ _ _ h.count (keeps_with_gap (widest_end net) times lower upper gap beyond least)) h

pub near_time : (time : ℤ) → IsNearValue time → IsTime time
near_time time h = (omega (arith, ints, h.0, h.1), omega (arith, ints, h.0, h.1))

pub near_times : (values : List ℤ) → All IsNearValue values → All IsTime values
near_times values near = All-weaker IsNearValue IsTime near_time values near
