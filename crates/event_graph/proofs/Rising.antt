-- Constraints that hold however far the events of a set are raised.
use Rattle.std.proofs.Common.{◌≡◌, ◌+◌, ◌<◌, ◌≤◌, inl, inr, ℕ, zero, suc, ℤ, pos, unsigned_abs, ◌+ℤ◌, ◌-ℤ◌, ◌≤ℤ◌, ◌↔◌, Bool, true, false, cond, if◌then◌else◌, IsSome, List, [], ◌∷◌, All, Any, length, get_or, Option, Some, None, IfSome, sym, ◌∙◌, refl, subst, arith}
use Rattle.std.proofs.lemmas.Int.{ints}
use Rattle.itv_base.specs.declared.names.EventId.{EventId}
use Rattle.itv_base.specs.declared.names.RuleKind.{RuleKind}
use Rattle.itv_base.specs.declared.names.RuleKind.TheVariants.{Lin, Late, Early}
use Rattle.itv_base.proofs.Bools.{true_or_false}
use Rattle.itv_base.proofs.Integers.{at_most_abs}
use Rattle.event_graph.specs.declared.cause.Cause.{Cause}
use Rattle.event_graph.specs.Network.{Constraint, Net}
use Rattle.event_graph.specs.Satisfying.{HoldsAs, IsAfter, IsBefore, Satisfies}
use Rattle.event_graph.specs.Step.Rising.{Stays, StaysAfter, StaysAs, StaysBefore, is_in}
use Rattle.event_graph.specs.Times.{raised, time_of}
use Rattle.event_graph.proofs.Rays.{length-raised}

-- by how much a time is raised
abbrev pub rise : Bool → ℕ → ℕ
rise in_set by = cond in_set by 0

raised_time : (b : Bool) (t : ℤ) (by : ℕ) → (if b then t +ℤ pos by else t) ≡ t +ℤ pos (rise b by)
raised_time true t by = refl
raised_time false t by = omega (arith, ints)

raised_at : (set : List Bool) (by : ℕ) (times : List ℤ) (k : ℕ) → length set ≡ length times
    → get_or (raised set by times) k (pos 0) ≡ get_or times k (pos 0) +ℤ pos (rise (get_or set k false) by)
raised_at [] by [] k same = omega (arith, ints)
raised_at [] by (time ∷ times) k same = absurd (omega arith)
raised_at (in_set ∷ set) by [] k same = absurd (omega arith)
raised_at (in_set ∷ set) by (time ∷ times) zero same = raised_time in_set time by
raised_at (in_set ∷ set) by (time ∷ times) (suc k) same = raised_at set by times k (omega arith)

-- ---- one inequality

abbrev Risen : ℤ → ℤ → Bool → Bool → ℕ → Type 0
Risen u v in_u in_v by = (u +ℤ pos (rise in_u by)) ≤ℤ (v +ℤ pos (rise in_v by))

-- an inequality fails if only its left side is raised, and far enough
far_fails : (u v : ℤ) (by : ℕ) → unsigned_abs (v -ℤ u) < by → Risen u v true false by → ⊥
far_fails u v by far h = let most : (v -ℤ u) ≤ℤ pos (unsigned_abs (v -ℤ u)) = at_most_abs (v -ℤ u) in omega (arith, ints)

le_from_risen : (u v : ℤ) (in_u in_v : Bool) → Risen u v in_u in_v 0 → u ≤ℤ v
le_from_risen u v true true h = omega (arith, ints)
le_from_risen u v true false h = omega (arith, ints)
le_from_risen u v false true h = omega (arith, ints)
le_from_risen u v false false h = omega (arith, ints)

in_from_far : (u v : ℤ) (in_u in_v : Bool) (by : ℕ) → unsigned_abs (v -ℤ u) < by → Risen u v in_u in_v by → in_u ≡ true → in_v ≡ true
in_from_far u v true true by far h in_set = refl
in_from_far u v true false by far h in_set = absurd (far_fails u v by far h)
in_from_far u v false true by far h in_set = refl
in_from_far u v false false by far h in_set = in_set

risen : (u v : ℤ) (in_u in_v : Bool) (by : ℕ) → u ≤ℤ v → (in_u ≡ true → in_v ≡ true) → Risen u v in_u in_v by
risen u v true true by le kept = omega (arith, ints)
risen u v true false by le kept = absurd (let e : false ≡ true = kept refl in (cc))
risen u v false true by le kept = omega (arith, ints)
risen u v false false by le kept = omega (arith, ints)

-- if the right side is raised only with the left, an inequality that holds raised held before
le_back : (u v : ℤ) (in_u in_v : Bool) (by : ℕ) → (in_v ≡ true → in_u ≡ true) → Risen u v in_u in_v by → u ≤ℤ v
le_back u v true true by kept h = omega (arith, ints)
le_back u v true false by kept h = omega (arith, ints)
le_back u v false true by kept h = absurd (let e : false ≡ true = kept refl in (cc))
le_back u v false false by kept h = omega (arith, ints)

-- ---- an end, that may be open

abbrev RisenEnd : Option ℤ → (ℤ → ℤ) → (ℤ → ℤ) → Bool → Bool → ℕ → Type 0
RisenEnd o u v in_u in_v by = IfSome o (λ e. Risen (u e) (v e) in_u in_v by)

abbrev KeptEnd : Option ℤ → (ℤ → ℤ) → (ℤ → ℤ) → Bool → Bool → Type 0
KeptEnd o u v in_u in_v = IfSome o (λ e. u e ≤ℤ v e) × (IsSome o → in_u ≡ true → in_v ≡ true)

-- a rise of more than this is far enough
abbrev reach : Option ℤ → (ℤ → ℤ) → (ℤ → ℤ) → ℕ
reach None u v = 0
reach (Some e) u v = unsigned_abs (v e -ℤ u e)

none_is : IsSome {T = ℤ} None → ⊥
none_is some = cc

kept_end : (o : Option ℤ) (u v : ℤ → ℤ) (in_u in_v : Bool) → ((by : ℕ) → RisenEnd o u v in_u in_v by) → KeptEnd o u v in_u in_v
kept_end None u v in_u in_v h = (tt, λ some. absurd (none_is some))
kept_end (Some e) u v in_u in_v h =
    (le_from_risen (u e) (v e) in_u in_v (h 0), λ _. in_from_far (u e) (v e) in_u in_v (unsigned_abs (v e -ℤ u e) + 1) (omega arith) (h (unsigned_abs (v e -ℤ u e) + 1)))

end_kept : (o : Option ℤ) (u v : ℤ → ℤ) (in_u in_v : Bool) (by : ℕ) → KeptEnd o u v in_u in_v → RisenEnd o u v in_u in_v by
end_kept None u v in_u in_v by h = tt
end_kept (Some e) u v in_u in_v by h = risen (u e) (v e) in_u in_v by h.0 (h.1 refl)

-- if the right side is raised only with the left, an end that holds when raised far enough is kept
kept_far : (o : Option ℤ) (u v : ℤ → ℤ) (in_u in_v : Bool) (by : ℕ) → reach o u v < by → (in_v ≡ true → in_u ≡ true) → RisenEnd o u v in_u in_v by
    → KeptEnd o u v in_u in_v
kept_far None u v in_u in_v by far back h = (tt, λ some. absurd (none_is some))
kept_far (Some e) u v in_u in_v by far back h = (le_back (u e) (v e) in_u in_v by back h, λ _. in_from_far (u e) (v e) in_u in_v by far h)

-- if the left side is raised only with the right, an end that holds before it is raised is kept
kept_here : (o : Option ℤ) (u v : ℤ → ℤ) (in_u in_v : Bool) → (in_u ≡ true → in_v ≡ true) → RisenEnd o u v in_u in_v 0 → KeptEnd o u v in_u in_v
kept_here None u v in_u in_v kept h = (tt, λ some. absurd (none_is some))
kept_here (Some e) u v in_u in_v kept h = (le_from_risen (u e) (v e) in_u in_v h, λ _. kept)

-- ---- one of some causes

total : (Cause → ℕ) → List Cause → ℕ
total f [] = 0
total f (c ∷ cs) = f c + total f cs

within_total : (f : Cause → ℕ) (cs : List Cause) (k : ℕ) (d : Cause) → k < length cs → f (get_or cs k d) ≤ total f cs
unfolding total
within_total f [] k d within = absurd (omega arith)
within_total f (c ∷ cs) zero d within = omega arith
within_total f (c ∷ cs) (suc k) d within = omega (arith, within_total f cs k d (omega arith))

module _ (end : Cause → Option ℤ) (u v : Cause → ℤ → ℤ) (in_u in_v : Cause → Bool) (cs : List Cause) where
  any_far : ((c : Cause) → in_v c ≡ true → in_u c ≡ true) → ((by : ℕ) → Any (λ c. RisenEnd (end c) (u c) (v c) (in_u c) (in_v c) by) cs)
      → Any (λ c. KeptEnd (end c) (u c) (v c) (in_u c) (in_v c)) cs
  any_far back h =
      let far : ℕ = total (λ c. reach (end c) (u c) (v c)) cs + 1 in
      let (k, c, within, here, holds) = h far in
      let less : reach (end c) (u c) (v c) < far =
      subst (λ d. reach (end d) (u d) (v d) < far) here (omega (arith, within_total (λ d. reach (end d) (u d) (v d)) cs k c within)) in
      (k, c, within, here, kept_far (end c) (u c) (v c) (in_u c) (in_v c) far less (back c) holds)

  any_here : ((c : Cause) → in_u c ≡ true → in_v c ≡ true) → ((by : ℕ) → Any (λ c. RisenEnd (end c) (u c) (v c) (in_u c) (in_v c) by) cs)
      → Any (λ c. KeptEnd (end c) (u c) (v c) (in_u c) (in_v c)) cs
  any_here kept h =
      let (k, c, within, here, holds) = h 0 in
      (k, c, within, here, kept_here (end c) (u c) (v c) (in_u c) (in_v c) (kept c) holds)

-- ---- one cause

after_apart : (o : Option ℤ) (a b low_at high_at : ℤ) (r s : ℕ) → low_at ≡ a +ℤ pos r → high_at ≡ b +ℤ pos s → IfSome o (λ low. (low_at +ℤ low) ≤ℤ high_at)
    → IfSome o (λ low. ((a +ℤ low) +ℤ pos r) ≤ℤ (b +ℤ pos s))
after_apart None a b low_at high_at r s is_low is_high h = tt
after_apart (Some low) a b low_at high_at r s is_low is_high h = omega (arith, ints)

after_joined : (o : Option ℤ) (a b low_at high_at : ℤ) (r s : ℕ) → low_at ≡ a +ℤ pos r → high_at ≡ b +ℤ pos s
    → IfSome o (λ low. ((a +ℤ low) +ℤ pos r) ≤ℤ (b +ℤ pos s)) → IfSome o (λ low. (low_at +ℤ low) ≤ℤ high_at)
after_joined None a b low_at high_at r s is_low is_high h = tt
after_joined (Some low) a b low_at high_at r s is_low is_high h = omega (arith, ints)

before_apart : (o : Option ℤ) (a b low_at high_at : ℤ) (r s : ℕ) → low_at ≡ a +ℤ pos r → high_at ≡ b +ℤ pos s → IfSome o (λ high. low_at ≤ℤ (high_at +ℤ high))
    → IfSome o (λ high. (a +ℤ pos r) ≤ℤ ((b +ℤ high) +ℤ pos s))
before_apart None a b low_at high_at r s is_low is_high h = tt
before_apart (Some high) a b low_at high_at r s is_low is_high h = omega (arith, ints)

before_joined : (o : Option ℤ) (a b low_at high_at : ℤ) (r s : ℕ) → low_at ≡ a +ℤ pos r → high_at ≡ b +ℤ pos s
    → IfSome o (λ high. (a +ℤ pos r) ≤ℤ ((b +ℤ high) +ℤ pos s)) → IfSome o (λ high. low_at ≤ℤ (high_at +ℤ high))
before_joined None a b low_at high_at r s is_low is_high h = tt
before_joined (Some high) a b low_at high_at r s is_low is_high h = omega (arith, ints)

any_by : (P Q : Cause → Type 0) (cs : List Cause) → ((c : Cause) → P c → Q c) → Any P cs → Any Q cs
any_by P Q cs follows (k, c, within, here, h) = (k, c, within, here, follows c h)

module _ (times : List ℤ) (set : List Bool) (same : length set ≡ length times) (target : EventId) where
  at : (by : ℕ) (e : EventId) → time_of (raised set by times) e ≡ time_of times e +ℤ pos (rise (is_in set e) by)
  at by e = raised_at set by times e.0 same

  abbrev RisenAfter : ℕ → Cause → Type 0
  RisenAfter by c = RisenEnd c.range.low (λ low. time_of times c.event +ℤ low) (λ _. time_of times target) (is_in set c.event) (is_in set target) by

  abbrev RisenBefore : ℕ → Cause → Type 0
  RisenBefore by c = RisenEnd c.range.high (λ _. time_of times target) (λ high. time_of times c.event +ℤ high) (is_in set target) (is_in set c.event) by

  risen_after : (by : ℕ) (c : Cause) → IsAfter (raised set by times) target c → RisenAfter by c
  risen_after by c h = after_apart c.range.low (time_of times c.event) (time_of times target) (time_of (raised set by times) c.event) (time_of (raised set by times) target) (rise (is_in set c.event) by) (rise (is_in set target) by) (at by c.event) (at by target) h

  after_risen : (by : ℕ) (c : Cause) → RisenAfter by c → IsAfter (raised set by times) target c
  after_risen by c h = after_joined c.range.low (time_of times c.event) (time_of times target) (time_of (raised set by times) c.event) (time_of (raised set by times) target) (rise (is_in set c.event) by) (rise (is_in set target) by) (at by c.event) (at by target) h

  risen_before : (by : ℕ) (c : Cause) → IsBefore (raised set by times) target c → RisenBefore by c
  risen_before by c h = before_apart c.range.high (time_of times target) (time_of times c.event) (time_of (raised set by times) target) (time_of (raised set by times) c.event) (rise (is_in set target) by) (rise (is_in set c.event) by) (at by target) (at by c.event) h

  before_risen : (by : ℕ) (c : Cause) → RisenBefore by c → IsBefore (raised set by times) target c
  before_risen by c h = before_joined c.range.high (time_of times target) (time_of times c.event) (time_of (raised set by times) target) (time_of (raised set by times) c.event) (rise (is_in set target) by) (rise (is_in set c.event) by) (at by target) (at by c.event) h

  stays_after : (c : Cause) → ((by : ℕ) → IsAfter (raised set by times) target c) → StaysAfter times set target c
  stays_after c h = kept_end c.range.low (λ low. time_of times c.event +ℤ low) (λ _. time_of times target) (is_in set c.event) (is_in set target) (λ by. risen_after by c (h by))

  after_stays : (by : ℕ) (c : Cause) → StaysAfter times set target c → IsAfter (raised set by times) target c
  after_stays by c h = after_risen by c (end_kept c.range.low (λ low. time_of times c.event +ℤ low) (λ _. time_of times target) (is_in set c.event) (is_in set target) by h)

  stays_before : (c : Cause) → ((by : ℕ) → IsBefore (raised set by times) target c) → StaysBefore times set target c
  stays_before c h = kept_end c.range.high (λ _. time_of times target) (λ high. time_of times c.event +ℤ high) (is_in set target) (is_in set c.event) (λ by. risen_before by c (h by))

  before_stays : (by : ℕ) (c : Cause) → StaysBefore times set target c → IsBefore (raised set by times) target c
  before_stays by c h = before_risen by c (end_kept c.range.high (λ _. time_of times target) (λ high. time_of times c.event +ℤ high) (is_in set target) (is_in set c.event) by h)

  some_before : (cs : List Cause) → ((by : ℕ) → Any (IsBefore (raised set by times) target) cs) → Any (StaysBefore times set target) cs
  some_before cs h =
      let each : (by : ℕ) → Any (RisenBefore by) cs = λ by. any_by (IsBefore (raised set by times) target) (RisenBefore by) cs (risen_before by) (h by) in
      elim (true_or_false (is_in set target)) [
        | inl in_set ↦ any_far (λ c. c.range.high) (λ _ _. time_of times target) (λ c high. time_of times c.event +ℤ high) (λ _. is_in set target) (λ c. is_in set c.event) cs
            (λ c _. in_set) each
        | inr out ↦ any_here (λ c. c.range.high) (λ _ _. time_of times target) (λ c high. time_of times c.event +ℤ high) (λ _. is_in set target) (λ c. is_in set c.event) cs
            (λ c in_set. absurd (let e : false ≡ true = sym out ∙ in_set in (cc))) each
      ]

  some_after : (cs : List Cause) → ((by : ℕ) → Any (IsAfter (raised set by times) target) cs) → Any (StaysAfter times set target) cs
  some_after cs h =
      let each : (by : ℕ) → Any (RisenAfter by) cs = λ by. any_by (IsAfter (raised set by times) target) (RisenAfter by) cs (risen_after by) (h by) in
      elim (true_or_false (is_in set target)) [
        | inl in_set ↦ any_here (λ c. c.range.low) (λ c low. time_of times c.event +ℤ low) (λ _ _. time_of times target) (λ c. is_in set c.event) (λ _. is_in set target) cs
            (λ c _. in_set) each
        | inr out ↦ any_far (λ c. c.range.low) (λ c low. time_of times c.event +ℤ low) (λ _ _. time_of times target) (λ c. is_in set c.event) (λ _. is_in set target) cs
            (λ c in_set. absurd (let e : false ≡ true = sym out ∙ in_set in (cc))) each
      ]

  stays_as : (kind : RuleKind) (cs : List Cause) → ((by : ℕ) → HoldsAs kind (raised set by times) target cs) → StaysAs kind times set target cs
  stays_as Lin cs h =
      ((λ k d within. stays_after (get_or cs k d) (λ by. (h by).0 k d within)), (λ k d within. stays_before (get_or cs k d) (λ by. (h by).1 k d within)))
  stays_as Late cs h = ((λ k d within. stays_after (get_or cs k d) (λ by. (h by).0 k d within)), some_before cs (λ by. (h by).1))
  stays_as Early cs h = ((λ k d within. stays_before (get_or cs k d) (λ by. (h by).0 k d within)), some_after cs (λ by. (h by).1))

  as_stays : (kind : RuleKind) (cs : List Cause) (by : ℕ) → StaysAs kind times set target cs → HoldsAs kind (raised set by times) target cs
  as_stays Lin cs by h = ((λ k d within. after_stays by (get_or cs k d) (h.0 k d within)), (λ k d within. before_stays by (get_or cs k d) (h.1 k d within)))
  as_stays Late cs by h = ((λ k d within. after_stays by (get_or cs k d) (h.0 k d within)), any_by (StaysBefore times set target) (IsBefore (raised set by times) target) cs (before_stays by) h.1)
  as_stays Early cs by h = ((λ k d within. before_stays by (get_or cs k d) (h.0 k d within)), any_by (StaysAfter times set target) (IsAfter (raised set by times) target) cs (after_stays by) h.1)

-- times satisfy a network however far a set is raised if and only if each constraint stays
pub raised_satisfy : (net : Net) (times : List ℤ) (set : List Bool) → length times ≡ net.events → length set ≡ net.events
    → (((by : ℕ) → Satisfies (raised set by times) net) ↔ All (Stays times set) net.constraints)
raised_satisfy net times set count set_count =
    let same : length set ≡ length times = set_count ∙ sym count in (
      (λ h k d within.
          let c : Constraint = get_or net.constraints k d in
          stays_as times set same c.target c.kind c.causes (λ by. (h by).each k d within)),
      (λ all by. record {
        count = length-raised set by times ∙ count;
        each = λ k d within.
            let c : Constraint = get_or net.constraints k d in
            as_stays times set same c.target c.kind c.causes by (all k d within);
      }),
    )
