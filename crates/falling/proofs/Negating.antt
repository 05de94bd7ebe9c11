-- Negated times satisfy the negated network.
use Rattle.std.proofs.Common.{◌≡◌, ◌<◌, ℕ, zero, suc, ℤ, pos, neg_ℤ, ◌+ℤ◌, ◌-ℤ◌, ◌≤ℤ◌, ◌<ℤ◌, List, [], ◌∷◌, All, Any, length, map, get_or, Option, Some, None, IfSome, option_map, sym, ap, ◌∙◌, refl, subst, arith}
use Rattle.std.proofs.lemmas.Int.{ints}
use Rattle.itv_base.specs.declared.names.EventId.{EventId}
use Rattle.itv_base.specs.declared.names.RuleKind.{RuleKind}
use Rattle.itv_base.specs.declared.names.RuleKind.TheVariants.{Lin, Late, Early}
use Rattle.itv_base.proofs.Integers.{neg_twice}
use Rattle.event_graph.specs.declared.cause.Cause.{Cause}
use Rattle.event_graph.specs.Network.{Net}
use Rattle.event_graph.specs.Satisfying.{Holds, HoldsAs, IsAfter, IsBefore, Satisfies}
use Rattle.event_graph.specs.Times.{separation, time_of}
use Rattle.falling.specs.Kinds.{negated, negated_cause, negated_constraint, negated_kind, negated_times}
use Rattle.falling.specs.Laws.{NegationKeepsSatisfying, NegationReversesGreatest, NegationReversesUnbounded}

-- the negated times of events, also past the end, where both are 0
pub get_or-negated : (times : List ℤ) (i : ℕ) → get_or (negated_times times) i (pos 0) ≡ neg_ℤ (get_or times i (pos 0))
get_or-negated [] i = refl
get_or-negated (time ∷ times) zero = refl
get_or-negated (time ∷ times) (suc i) = get_or-negated times i

pub time_of-negated : (times : List ℤ) (event : EventId) → time_of (negated_times times) event ≡ neg_ℤ (time_of times event)
time_of-negated times event = get_or-negated times event.0

pub separation-negated : (times : List ℤ) (from to : EventId) → separation (negated_times times) to from ≡ separation times from to
separation-negated times from to =
    rw (time_of-negated times from, time_of-negated times to) (turned (time_of times from) (time_of times to)) where
      turned : (a b : ℤ) → (neg_ℤ a -ℤ neg_ℤ b) ≡ (b -ℤ a)
      turned a b = omega (arith, ints)

pub negated_twice : (times : List ℤ) → negated_times (negated_times times) ≡ times
negated_twice [] = refl
negated_twice (time ∷ times) = rw (neg_twice time, negated_twice times) refl

-- what a cause asks is turned round
after_turns : (low : Option ℤ) (a b : ℤ) → IfSome low (λ l. (a +ℤ l) ≤ℤ b) → IfSome (option_map neg_ℤ low) (λ h. neg_ℤ b ≤ℤ (neg_ℤ a +ℤ h))
after_turns None a b h = tt
after_turns (Some l) a b h = omega (arith, ints)

before_turns : (high : Option ℤ) (a b : ℤ) → IfSome high (λ h. b ≤ℤ (a +ℤ h)) → IfSome (option_map neg_ℤ high) (λ l. (neg_ℤ a +ℤ l) ≤ℤ neg_ℤ b)
before_turns None a b h = tt
before_turns (Some l) a b h = omega (arith, ints)

after_back : (low : Option ℤ) (a b : ℤ) → IfSome (option_map neg_ℤ low) (λ h. neg_ℤ b ≤ℤ (neg_ℤ a +ℤ h)) → IfSome low (λ l. (a +ℤ l) ≤ℤ b)
after_back None a b h = tt
after_back (Some l) a b h = omega (arith, ints)

before_back : (high : Option ℤ) (a b : ℤ) → IfSome (option_map neg_ℤ high) (λ l. (neg_ℤ a +ℤ l) ≤ℤ neg_ℤ b) → IfSome high (λ h. b ≤ℤ (a +ℤ h))
before_back None a b h = tt
before_back (Some l) a b h = omega (arith, ints)

cause_after : (times : List ℤ) (target : EventId) (c : Cause) → IsAfter times target c → IsBefore (negated_times times) target (negated_cause c)
cause_after times target c h = rw (time_of-negated times target, time_of-negated times c.event) (after_turns c.range.low (time_of times c.event) (time_of times target) h)

cause_before : (times : List ℤ) (target : EventId) (c : Cause) → IsBefore times target c → IsAfter (negated_times times) target (negated_cause c)
cause_before times target c h = rw (time_of-negated times target, time_of-negated times c.event) (before_turns c.range.high (time_of times c.event) (time_of times target) h)

cause_after_back : (times : List ℤ) (target : EventId) (c : Cause) → IsBefore (negated_times times) target (negated_cause c) → IsAfter times target c
cause_after_back times target c h =
    after_back c.range.low (time_of times c.event) (time_of times target) (rw (time_of-negated times target, time_of-negated times c.event) at h)

cause_before_back : (times : List ℤ) (target : EventId) (c : Cause) → IsAfter (negated_times times) target (negated_cause c) → IsBefore times target c
cause_before_back times target c h =
    before_back c.range.high (time_of times c.event) (time_of times target) (rw (time_of-negated times target, time_of-negated times c.event) at h)

-- over the mapped list
at_map : {X Y : Type 0} (f : X → Y) (xs : List X) (i : ℕ) (d : X) (e : Y) → i < length xs → get_or (map f xs) i e ≡ f (get_or xs i d)
at_map f [] i d e within = absurd (omega arith)
at_map f (x ∷ xs) zero d e within = refl
at_map f (x ∷ xs) (suc i) d e within = at_map f xs i d e (omega arith)

pub length-mapped : {X Y : Type 0} (f : X → Y) (xs : List X) → length (map f xs) ≡ length xs
length-mapped f [] = refl
length-mapped f (x ∷ xs) = ap suc (length-mapped f xs)

-- the element of a list at a place that is there
element : {X : Type 0} (xs : List X) (i : ℕ) → i < length xs → (x : X) × ((d : X) → get_or xs i d ≡ x)
element [] i within = absurd (omega arith)
element (x ∷ xs) zero within = (x, λ d. refl)
element (x ∷ xs) (suc i) within = element xs i (omega arith)

pub all_map : {X Y : Type 0} (f : X → Y) (P : X → Type 0) (Q : Y → Type 0) (xs : List X) → ((x : X) → P x → Q (f x)) → All P xs → All Q (map f xs)
all_map f P Q xs follows h = λ i d within.
    let there : i < length xs = omega (arith, length-mapped f xs) in
    let (x, is) = element xs i there in
    subst Q (sym (at_map f xs i x d there ∙ ap f (is x))) (follows x (subst P (is x) (h i x there)))

pub all_unmap : {X Y : Type 0} (f : X → Y) (P : X → Type 0) (Q : Y → Type 0) (xs : List X) → ((x : X) → Q (f x) → P x) → All Q (map f xs) → All P xs
all_unmap f P Q xs follows h = λ i d within.
    follows (get_or xs i d) (subst Q (at_map f xs i d (f d) within) (h i (f d) (omega (arith, length-mapped f xs))))

pub any_map : {X Y : Type 0} (f : X → Y) (P : X → Type 0) (Q : Y → Type 0) (xs : List X) → ((x : X) → P x → Q (f x)) → Any P xs → Any Q (map f xs)
any_map f P Q xs follows (i, x, within, here, h) =
    (i, f x, omega (arith, length-mapped f xs), at_map f xs i x (f x) within ∙ ap f here, follows x h)

pub any_unmap : {X Y : Type 0} (f : X → Y) (P : X → Type 0) (Q : Y → Type 0) (xs : List X) → ((x : X) → Q (f x) → P x) → Any Q (map f xs) → Any P xs
any_unmap f P Q xs follows (i, y, within, here, h) =
    let there : i < length xs = omega (arith, length-mapped f xs) in
    let (x, is) = element xs i there in
    (i, x, there, is x, follows x (subst Q (sym here ∙ (at_map f xs i x y there ∙ ap f (is x))) h))

holds_turns : (kind : RuleKind) (times : List ℤ) (target : EventId) (causes : List Cause) → HoldsAs kind times target causes
    → HoldsAs (negated_kind kind) (negated_times times) target (map negated_cause causes)
holds_turns Lin times target causes h =
    (all_map negated_cause (IsBefore times target) (IsAfter (negated_times times) target) causes (cause_before times target) h.1, all_map negated_cause (IsAfter times target) (IsBefore (negated_times times) target) causes (cause_after times target) h.0)
holds_turns Late times target causes h =
    (all_map negated_cause (IsAfter times target) (IsBefore (negated_times times) target) causes (cause_after times target) h.0, any_map negated_cause (IsBefore times target) (IsAfter (negated_times times) target) causes (cause_before times target) h.1)
holds_turns Early times target causes h =
    (all_map negated_cause (IsBefore times target) (IsAfter (negated_times times) target) causes (cause_before times target) h.0, any_map negated_cause (IsAfter times target) (IsBefore (negated_times times) target) causes (cause_after times target) h.1)

holds_back : (kind : RuleKind) (times : List ℤ) (target : EventId) (causes : List Cause) → HoldsAs (negated_kind kind) (negated_times times) target (map negated_cause causes)
    → HoldsAs kind times target causes
holds_back Lin times target causes h =
    (all_unmap negated_cause (IsAfter times target) (IsBefore (negated_times times) target) causes (cause_after_back times target) h.1, all_unmap negated_cause (IsBefore times target) (IsAfter (negated_times times) target) causes (cause_before_back times target) h.0)
holds_back Late times target causes h =
    (all_unmap negated_cause (IsAfter times target) (IsBefore (negated_times times) target) causes (cause_after_back times target) h.0, any_unmap negated_cause (IsBefore times target) (IsAfter (negated_times times) target) causes (cause_before_back times target) h.1)
holds_back Early times target causes h =
    (all_unmap negated_cause (IsBefore times target) (IsAfter (negated_times times) target) causes (cause_before_back times target) h.0, any_unmap negated_cause (IsAfter times target) (IsBefore (negated_times times) target) causes (cause_after_back times target) h.1)

pub satisfies_turns : (net : Net) (times : List ℤ) → Satisfies times net → Satisfies (negated_times times) (negated net)
satisfies_turns net times h = record {
  count = length-mapped neg_ℤ times ∙ h.count;
  each = all_map negated_constraint (Holds times) (Holds (negated_times times)) net.constraints (λ k holds. holds_turns k.kind times k.target k.causes holds) h.each;
}

pub satisfies_back : (net : Net) (times : List ℤ) → Satisfies (negated_times times) (negated net) → Satisfies times net
satisfies_back net times h = record {
  count = sym (length-mapped neg_ℤ times) ∙ h.count;
  each = all_unmap negated_constraint (Holds times) (Holds (negated_times times)) net.constraints (λ k holds. holds_back k.kind times k.target k.causes holds) h.each;
}

-- times of the negated network, negated again
pub satisfies_from : (net : Net) (times : List ℤ) → Satisfies times (negated net) → Satisfies (negated_times times) net
satisfies_from net times h = satisfies_back net (negated_times times) (subst (λ t. Satisfies t (negated net)) (sym (negated_twice times)) h)

pub negation_keeps_satisfying : NegationKeepsSatisfying
negation_keeps_satisfying net times is_net = (satisfies_turns net times, satisfies_back net times)

pub negation_reverses_greatest : NegationReversesGreatest
negation_reverses_greatest net from to value is_net = (
  (λ greatest. record {
    attained = (negated_times greatest.attained.0, satisfies_turns net greatest.attained.0 greatest.attained.1, separation-negated greatest.attained.0 from to ∙ greatest.attained.2);
    most = λ times h. subst (λ z. z ≤ℤ value) (separation-negated times to from) (greatest.most (negated_times times) (satisfies_from net times h));
  }),
  (λ greatest. record {
    attained = (negated_times greatest.attained.0, satisfies_from net greatest.attained.0 greatest.attained.1, separation-negated greatest.attained.0 to from ∙ greatest.attained.2);
    most = λ times h. subst (λ z. z ≤ℤ value) (separation-negated times from to) (greatest.most (negated_times times) (satisfies_turns net times h));
  }),
)

pub negation_reverses_unbounded : NegationReversesUnbounded
negation_reverses_unbounded net from to is_net = (
  (λ unbounded value.
      let (times, h, beyond) = unbounded value in
      (negated_times times, satisfies_turns net times h, subst (λ z. value <ℤ z) (sym (separation-negated times from to)) beyond)),
  (λ unbounded value.
      let (times, h, beyond) = unbounded value in
      (negated_times times, satisfies_from net times h, subst (λ z. value <ℤ z) (sym (separation-negated times to from)) beyond)),
)
