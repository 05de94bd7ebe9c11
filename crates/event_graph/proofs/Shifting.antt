-- Times with equal separations satisfy the same constraints.
use Rattle.std.proofs.Common.{◌≡◌, ◌<◌, ℕ, ℤ, pos, ◌+ℤ◌, ◌-ℤ◌, ◌≤ℤ◌, List, All, Any, length, get_or, Option, Some, None, IfSome, sym, ◌∙◌, subst, arith}
use Rattle.std.proofs.lemmas.Int.{ints}
use Rattle.std.proofs.lemmas.List.{get_or-map, length-map}
use Rattle.itv_base.specs.declared.names.EventId.{EventId}
use Rattle.itv_base.specs.declared.names.RuleKind.{RuleKind}
use Rattle.itv_base.specs.declared.names.RuleKind.TheVariants.{Lin, Late, Early}
use Rattle.event_graph.specs.declared.cause.Cause.{Cause}
use Rattle.event_graph.specs.Network.{IsConstraint, IsNet, Net}
use Rattle.event_graph.specs.Satisfying.{HoldsAs, IsAfter, IsBefore, Satisfies}
use Rattle.event_graph.specs.Times.{separation, shifted, time_of}
use Rattle.event_graph.specs.Laws.{ShiftKeepsSatisfying}

-- each pair of events below a number has equal separations
abbrev pub SameSeparations : ℕ → List ℤ → List ℤ → Type 0
SameSeparations events times others = (from to : EventId) → from.0 < events → to.0 < events → separation times from to ≡ separation others from to

after_same : (low : Option ℤ) (a b a' b' : ℤ) → (b -ℤ a) ≡ (b' -ℤ a') → IfSome low (λ l. (a +ℤ l) ≤ℤ b) → IfSome low (λ l. (a' +ℤ l) ≤ℤ b')
after_same None a b a' b' same h = tt
after_same (Some l) a b a' b' same h = omega (arith, ints)

before_same : (high : Option ℤ) (a b a' b' : ℤ) → (b -ℤ a) ≡ (b' -ℤ a') → IfSome high (λ h. b ≤ℤ (a +ℤ h)) → IfSome high (λ h. b' ≤ℤ (a' +ℤ h))
before_same None a b a' b' same h = tt
before_same (Some l) a b a' b' same h = omega (arith, ints)

-- if all elements have R, and P and R together give Q, then Q holds of all elements, or of some, if P does
pub all_follow : (P Q R : Cause → Type 0) (xs : List Cause) → All R xs → ((x : Cause) → R x → P x → Q x) → All P xs → All Q xs
all_follow P Q R xs in' follows h = λ k d within. follows (get_or xs k d) (in' k d within) (h k d within)

pub any_follows : (P Q R : Cause → Type 0) (xs : List Cause) → All R xs → ((x : Cause) → R x → P x → Q x) → Any P xs → Any Q xs
any_follows P Q R xs in' follows (k, x, within, here, h) = (k, x, within, here, follows x (subst R here (in' k x within)) h)

holds_same_as : (kind : RuleKind) (events : ℕ) (times others : List ℤ) (target : EventId) (causes : List Cause) → SameSeparations events times others
    → target.0 < events → All (λ (c : Cause). c.event.0 < events) causes → HoldsAs kind times target causes → HoldsAs kind others target causes
holds_same_as kind events times others target causes same in_target in_causes =
    let after : (c : Cause) → c.event.0 < events → IsAfter times target c → IsAfter others target c =
    λ c in_cause. after_same c.range.low _ _ _ _ (same c.event target in_cause in_target) in
    let before : (c : Cause) → c.event.0 < events → IsBefore times target c → IsBefore others target c =
    λ c in_cause. before_same c.range.high _ _ _ _ (same c.event target in_cause in_target) in
    let all_after : All (IsAfter times target) causes → All (IsAfter others target) causes = all_follow _ _ _ causes in_causes after in
    let all_before : All (IsBefore times target) causes → All (IsBefore others target) causes = all_follow _ _ _ causes in_causes before in
    let any_after : Any (IsAfter times target) causes → Any (IsAfter others target) causes = any_follows _ _ _ causes in_causes after in
    let any_before : Any (IsBefore times target) causes → Any (IsBefore others target) causes = any_follows _ _ _ causes in_causes before in
    elim kind as (λ k. HoldsAs k times target causes → HoldsAs k others target causes) [
      | Lin ↦ λ h. (all_after h.0, all_before h.1)
      | Late ↦ λ h. (all_after h.0, any_before h.1)
      | Early ↦ λ h. (all_before h.0, any_after h.1)
    ]

-- times with equal separations satisfy the same networks
pub satisfies_same : (net : Net) (times others : List ℤ) → IsNet net → length others ≡ net.events → SameSeparations net.events times others → Satisfies times net
    → Satisfies others net
satisfies_same net times others is_net count same h = record {
  count = count;
  each = λ k d within.
      let c : IsConstraint net.events (get_or net.constraints k d) = is_net.constraints k d within in
      holds_same_as (get_or net.constraints k d).kind net.events times others (get_or net.constraints k d).target (get_or net.constraints k d).causes same c.target c.causes
      (h.each k d within);
}

pub length-shifted : (times : List ℤ) (by : ℤ) → length (shifted times by) ≡ length times
length-shifted times by = length-map times (λ time. time +ℤ by)

separation-shifted : (times : List ℤ) (by : ℤ) → SameSeparations (length times) times (shifted times by)
separation-shifted times by from to in_from in_to =
    let at_from : time_of (shifted times by) from ≡ time_of times from +ℤ by = get_or-map (λ time. time +ℤ by) times from.0 (pos 0) (pos 0) in_from in
    let at_to : time_of (shifted times by) to ≡ time_of times to +ℤ by = get_or-map (λ time. time +ℤ by) times to.0 (pos 0) (pos 0) in_to in
    rw (at_from, at_to) (omega (arith, ints))

same_events : (m n : ℕ) (times others : List ℤ) → m ≡ n → SameSeparations m times others → SameSeparations n times others
same_events m n times others e same = subst (λ k. SameSeparations k times others) e same

pub shift_keeps_satisfying : ShiftKeepsSatisfying
shift_keeps_satisfying net times by is_net = (
  (λ h. satisfies_same net times (shifted times by) is_net (length-shifted times by ∙ h.count)
      (same_events _ _ _ _ h.count (separation-shifted times by)) h),
  (λ h.
      let count : length times ≡ net.events = sym (length-shifted times by) ∙ h.count in
      satisfies_same net (shifted times by) times is_net count
      (λ from to in_from in_to. sym (same_events _ _ _ _ count (separation-shifted times by) from to in_from in_to)) h),
)
