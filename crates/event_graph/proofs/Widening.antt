-- Times that satisfy a network satisfy each wider network.
use Rattle.std.proofs.Common.{◌<◌, ℤ, ◌+ℤ◌, ◌≤ℤ◌, List, All, Any, length, get_or, Option, Some, None, IfSome, sym, ◌∙◌, subst, arith}
use Rattle.std.proofs.lemmas.Int.{ints}
use Rattle.std.proofs.lemmas.List.{get_or_default}
use Rattle.std.proofs.lemmas.List.Elements.{AllZip-get_or, length_all_zip}
use Rattle.std.specs.List.{AllZip}
use Rattle.itv_base.specs.declared.names.EventId.{EventId}
use Rattle.itv_base.specs.declared.names.RuleKind.{RuleKind}
use Rattle.itv_base.specs.declared.names.RuleKind.TheVariants.{Lin, Late, Early}
use Rattle.event_graph.specs.declared.cause.Cause.{Cause}
use Rattle.event_graph.specs.Network.{Constraint}
use Rattle.event_graph.specs.Satisfying.{Holds, HoldsAs, IsAfter, IsBefore}
use Rattle.event_graph.specs.Times.{time_of}
use Rattle.event_graph.specs.Widening.{IsHigherEnd, IsLowerEnd, IsWiderCause, IsWiderConstraint, WiderKeepsSatisfying}

-- ---- one end

after_lower : (low wide : Option ℤ) (from to : ℤ) → IsLowerEnd low wide → IfSome low (λ l. (from +ℤ l) ≤ℤ to) → IfSome wide (λ l. (from +ℤ l) ≤ℤ to)
after_lower low None from to lower h = tt
after_lower None (Some l) from to lower h = absurd lower
after_lower (Some m) (Some l) from to lower h = omega (arith, ints)

before_higher : (high wide : Option ℤ) (from to : ℤ) → IsHigherEnd high wide → IfSome high (λ h. to ≤ℤ (from +ℤ h)) → IfSome wide (λ h. to ≤ℤ (from +ℤ h))
before_higher high None from to higher h = tt
before_higher None (Some l) from to higher h = absurd higher
before_higher (Some m) (Some l) from to higher h = omega (arith, ints)

-- ---- one cause

after_wider : (times : List ℤ) (target : EventId) (cause wide : Cause) → IsWiderCause cause wide → IsAfter times target cause → IsAfter times target wide
after_wider times target cause wide wider h =
    subst (λ (event : EventId). IfSome wide.range.low (λ low. (time_of times event +ℤ low) ≤ℤ time_of times target)) wider.event
    (after_lower cause.range.low wide.range.low _ _ wider.low h)

before_wider : (times : List ℤ) (target : EventId) (cause wide : Cause) → IsWiderCause cause wide → IsBefore times target cause → IsBefore times target wide
before_wider times target cause wide wider h =
    subst (λ (event : EventId). IfSome wide.range.high (λ high. time_of times target ≤ℤ (time_of times event +ℤ high))) wider.event
    (before_higher cause.range.high wide.range.high _ _ wider.high h)

-- ---- all causes, and some cause

-- if R relates each element to one of another list, and R carries P to Q, then Q holds of all, or of some, of the others, if P does of the first ones
all_wider : {X : Type 0} (R : X → X → Type 0) (P Q : X → Type 0) (xs ys : List X) → AllZip R xs ys → ((x y : X) → R x y → P x → Q y) → All P xs → All Q ys
all_wider R P Q xs ys pairs carries h = λ k d within.
    let in' : k < length xs = subst (λ n. k < n) (sym (length_all_zip R xs ys pairs)) within in
    carries (get_or xs k d) (get_or ys k d) (AllZip-get_or R xs ys k d d pairs in') (h k d in')

any_wider : {X : Type 0} (R : X → X → Type 0) (P Q : X → Type 0) (xs ys : List X) → AllZip R xs ys → ((x y : X) → R x y → P x → Q y) → Any P xs → Any Q ys
any_wider R P Q xs ys pairs carries (k, x, within, here, h) =
    let below : k < length ys = subst (λ n. k < n) (length_all_zip R xs ys pairs) within in (
      k,
      get_or ys k x,
      below,
      get_or_default ys k (get_or ys k x) x below,
      carries (get_or xs k x) (get_or ys k x) (AllZip-get_or R xs ys k x x pairs within) (subst P (sym here) h),
    )

-- ---- a constraint, and the network

holds_as_wider : (kind : RuleKind) (times : List ℤ) (target : EventId) (causes wide : List Cause) → AllZip IsWiderCause causes wide
    → HoldsAs kind times target causes → HoldsAs kind times target wide
holds_as_wider kind times target causes wide pairs =
    let all_after : All (IsAfter times target) causes → All (IsAfter times target) wide = all_wider IsWiderCause _ _ causes wide pairs (after_wider times target) in
    let all_before : All (IsBefore times target) causes → All (IsBefore times target) wide = all_wider IsWiderCause _ _ causes wide pairs (before_wider times target) in
    let any_after : Any (IsAfter times target) causes → Any (IsAfter times target) wide = any_wider IsWiderCause _ _ causes wide pairs (after_wider times target) in
    let any_before : Any (IsBefore times target) causes → Any (IsBefore times target) wide = any_wider IsWiderCause _ _ causes wide pairs (before_wider times target) in
    elim kind as (λ k. HoldsAs k times target causes → HoldsAs k times target wide) [
      | Lin ↦ λ h. (all_after h.0, all_before h.1)
      | Late ↦ λ h. (all_after h.0, any_before h.1)
      | Early ↦ λ h. (all_before h.0, any_after h.1)
    ]

holds_wider : (times : List ℤ) (c wide : Constraint) → IsWiderConstraint c wide → Holds times c → Holds times wide
holds_wider times c wide wider h =
    subst (λ (target : EventId). HoldsAs wide.kind times target wide.causes) wider.target
    (subst (λ (kind : RuleKind). HoldsAs kind times c.target wide.causes) wider.kind
    (holds_as_wider c.kind times c.target c.causes wide.causes wider.causes h))

pub wider_keeps_satisfying : WiderKeepsSatisfying
wider_keeps_satisfying net wide times wider h = record {
  count = h.count ∙ wider.events;
  each = all_wider IsWiderConstraint (Holds times) (Holds times) net.constraints wide.constraints wider.constraints (holds_wider times) h.each;
}
