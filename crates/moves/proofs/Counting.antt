-- Times counted from multiples of a value satisfy the counted network.
use Rattle.std.proofs.Common.{◌≡◌, ◌<◌, ℕ, zero, suc, ℤ, pos, neg_ℤ, ◌+ℤ◌, ◌-ℤ◌, ◌≤ℤ◌, List, [], ◌∷◌, All, Any, length, map, get_or, Option, Some, None, IfSome, option_map, refl, sym, ap, subst, ◌∙◌, arith}
use lib.IntN.{◌*ℤ◌}
use Rattle.std.proofs.lemmas.Int.{ints}
use Rattle.std.proofs.lemmas.List.{get_or-map, get_or_default, length-map}
use Rattle.itv_base.specs.declared.names.EventId.{EventId}
use Rattle.itv_base.specs.declared.names.RuleKind.{RuleKind}
use Rattle.itv_base.specs.declared.names.RuleKind.TheVariants.{Lin, Late, Early}
use Rattle.event_graph.specs.declared.cause.Cause.{Cause}
use Rattle.event_graph.specs.Network.{Constraint, Net}
use Rattle.event_graph.specs.Satisfying.{Holds, HoldsAs, IsAfter, IsBefore, Satisfies}
use Rattle.event_graph.specs.Times.{separation, time_of}
use Rattle.moves.specs.Covers.{cause_counted, constraint_counted, times_counted, lag, net_counted}
use Rattle.moves.proofs.Products.{less_times, zero_times}

-- ---- times

length_counted : (counts : List ℤ) (value : ℤ) (times : List ℤ) → length (times_counted counts value times) ≡ length times
length_counted [] value times = refl
length_counted (k ∷ counts) value [] = refl
length_counted (k ∷ counts) value (t ∷ times) = ap suc (length_counted counts value times)

less_none : (z w : ℤ) → w ≡ pos 0 → z ≡ (z -ℤ w)
less_none z w e = omega (arith, ints, e)

-- the counted time at a place
at_counted : (counts : List ℤ) (value : ℤ) (times : List ℤ) (n : ℕ) → length counts ≡ length times
    → get_or (times_counted counts value times) n (pos 0) ≡ (get_or times n (pos 0) -ℤ (get_or counts n (pos 0) *ℤ value))
at_counted [] value [] n same = less_none (pos 0) (pos 0 *ℤ value) (zero_times value)
at_counted [] value (t ∷ times) n same = absurd (omega (arith, same))
at_counted (k ∷ counts) value [] n same = absurd (omega (arith, same))
at_counted (k ∷ counts) value (t ∷ times) zero same = refl
at_counted (k ∷ counts) value (t ∷ times) (suc n) same = at_counted counts value times n (omega (arith, same))

apart_by : (x y t u a b c : ℤ) → x ≡ (t -ℤ a) → y ≡ (u -ℤ b) → c ≡ (b -ℤ a) → (y -ℤ x) ≡ ((u -ℤ t) -ℤ c)
apart_by x y t u a b c e f g = omega (arith, ints, e, f, g)

-- a separation of counted times is less by the lag
pub separation_counted : (counts : List ℤ) (value : ℤ) (times : List ℤ) (from to : EventId) → length counts ≡ length times
    → separation (times_counted counts value times) from to ≡ (separation times from to -ℤ lag counts value from to)
separation_counted counts value times from to same =
    apart_by (time_of (times_counted counts value times) from) (time_of (times_counted counts value times) to) (time_of times from) (time_of times to) (time_of counts from *ℤ value)
    (time_of counts to *ℤ value) (lag counts value from to) (at_counted counts value times from.0 same) (at_counted counts value times to.0 same)
    (less_times (time_of counts to) (time_of counts from) value)

-- ---- one cause

after_by : (t u x y low c : ℤ) → (y -ℤ x) ≡ ((u -ℤ t) -ℤ c) → (t +ℤ low) ≤ℤ u → (x +ℤ (low +ℤ neg_ℤ c)) ≤ℤ y
after_by t u x y low c e h = omega (arith, ints, e, h)

before_by : (t u x y high c : ℤ) → (y -ℤ x) ≡ ((u -ℤ t) -ℤ c) → u ≤ℤ (t +ℤ high) → y ≤ℤ (x +ℤ (high +ℤ neg_ℤ c))
before_by t u x y high c e h = omega (arith, ints, e, h)

after_end : (end : Option ℤ) (t u x y c : ℤ) → (y -ℤ x) ≡ ((u -ℤ t) -ℤ c) → IfSome end (λ low. (t +ℤ low) ≤ℤ u)
    → IfSome (option_map (λ low. low +ℤ neg_ℤ c) end) (λ low. (x +ℤ low) ≤ℤ y)
after_end None t u x y c e h = tt
after_end (Some low) t u x y c e h = after_by t u x y low c e h

before_end : (end : Option ℤ) (t u x y c : ℤ) → (y -ℤ x) ≡ ((u -ℤ t) -ℤ c) → IfSome end (λ high. u ≤ℤ (t +ℤ high))
    → IfSome (option_map (λ high. high +ℤ neg_ℤ c) end) (λ high. y ≤ℤ (x +ℤ high))
before_end None t u x y c e h = tt
before_end (Some high) t u x y c e h = before_by t u x y high c e h

module _ (counts : List ℤ) (value : ℤ) (times : List ℤ) (same : length counts ≡ length times) where
  after_counted : (target : EventId) (c : Cause) → IsAfter times target c → IsAfter (times_counted counts value times) target (cause_counted counts value target c)
  after_counted target c h = after_end c.range.low (time_of times c.event) (time_of times target) (time_of (times_counted counts value times) c.event) (time_of (times_counted counts value times) target)
      (lag counts value c.event target) (separation_counted counts value times c.event target same) h

  before_counted : (target : EventId) (c : Cause) → IsBefore times target c → IsBefore (times_counted counts value times) target (cause_counted counts value target c)
  before_counted target c h = before_end c.range.high (time_of times c.event) (time_of times target) (time_of (times_counted counts value times) c.event) (time_of (times_counted counts value times) target)
      (lag counts value c.event target) (separation_counted counts value times c.event target same) h

-- ---- all causes, and some cause

all_mapped : {X : Type 0} (f : X → X) (P Q : X → Type 0) (xs : List X) → ((x : X) → P x → Q (f x)) → All P xs → All Q (map f xs)
all_mapped f P Q xs carries h = λ k d within.
    let in' : k < length xs = subst (λ n. k < n) (length-map xs f) within in
    subst Q (sym (get_or-map f xs k d d in')) (carries (get_or xs k d) (h k d in'))

any_mapped : {X : Type 0} (f : X → X) (P Q : X → Type 0) (xs : List X) → ((x : X) → P x → Q (f x)) → Any P xs → Any Q (map f xs)
any_mapped f P Q xs carries (k, x, within, here, h) =
    let below : k < length (map f xs) = subst (λ n. k < n) (sym (length-map xs f)) within in (
      k,
      get_or (map f xs) k x,
      below,
      get_or_default (map f xs) k (get_or (map f xs) k x) x below,
      subst Q (sym (get_or-map f xs k x x within)) (carries (get_or xs k x) (subst P (sym here) h)),
    )

-- ---- a constraint, and the network

module _ (counts : List ℤ) (value : ℤ) (times : List ℤ) (same : length counts ≡ length times) where
  holds_counted_as : (kind : RuleKind) (target : EventId) (causes : List Cause) → HoldsAs kind times target causes
      → HoldsAs kind (times_counted counts value times) target (map (cause_counted counts value target) causes)
  holds_counted_as kind target causes =
      let others : List ℤ = times_counted counts value times in
      let f : Cause → Cause = cause_counted counts value target in
      let all_after : All (IsAfter times target) causes → All (IsAfter others target) (map f causes) = all_mapped f (IsAfter times target) (IsAfter others target) causes (after_counted counts value times same target) in
      let all_before : All (IsBefore times target) causes → All (IsBefore others target) (map f causes) = all_mapped f (IsBefore times target) (IsBefore others target) causes (before_counted counts value times same target) in
      let any_after : Any (IsAfter times target) causes → Any (IsAfter others target) (map f causes) = any_mapped f (IsAfter times target) (IsAfter others target) causes (after_counted counts value times same target) in
      let any_before : Any (IsBefore times target) causes → Any (IsBefore others target) (map f causes) = any_mapped f (IsBefore times target) (IsBefore others target) causes (before_counted counts value times same target) in
      elim kind as (λ k. HoldsAs k times target causes → HoldsAs k others target (map f causes)) [
        | Lin ↦ λ h. (all_after h.0, all_before h.1)
        | Late ↦ λ h. (all_after h.0, any_before h.1)
        | Early ↦ λ h. (all_before h.0, any_after h.1)
      ]

  holds_counted : (c : Constraint) → Holds times c → Holds (times_counted counts value times) (constraint_counted counts value c)
  holds_counted c h = holds_counted_as c.kind c.target c.causes h

-- satisfying times, counted, satisfy the counted network
pub satisfies_counted : (counts : List ℤ) (value : ℤ) (net : Net) (times : List ℤ) → length counts ≡ net.events → Satisfies times net
    → Satisfies (times_counted counts value times) (net_counted counts value net)
satisfies_counted counts value net times number sat =
    let same : length counts ≡ length times = number ∙ sym sat.count in
    record {
      count = length_counted counts value times ∙ sat.count;
      each = all_mapped (constraint_counted counts value) (Holds times) (Holds (times_counted counts value times)) net.constraints (holds_counted counts value times same) sat.each;
    }
