-- The negated causes and constraints so far.
use Rattle.std.proofs.Common.{◌≡◌, ◌+◌, ◌<◌, ◌≤◌, ℕ, zero, suc, List, [], ◌∷◌, ◌++◌, All, length, take, map, Option, Some, None, OnOk, Result, Ok, Err, option_map, slice_get, sym, ap, ◌∙◌, refl, subst, add-one}
use Rattle.itv_base.specs.declared.names.EventId.{EventId}
use Rattle.itv_base.specs.declared.names.RuleKind.{RuleKind}
use Rattle.itv_base.specs.declared.names.RuleKind.TheVariants.{Lin, Late, Early}
use Rattle.itv_base.proofs.Options.{mapped_some}
use Rattle.itv_base.proofs.Lists.{found_below}
use Rattle.event_graph.specs.declared.cause.Cause.{Cause}
use Rattle.event_graph.specs.Network.{Constraint, IsCauseCount, IsConstraint, IsNet, Net, cause_at, cause_count_of, with_constraint}
use Rattle.event_graph.proofs.EdgesMet.{All-found}
use Rattle.falling.specs.Kinds.{negated, negated_cause, negated_constraint, negated_kind}
use Rattle.falling.specs.Step.Kinds.{AreNegatedCauses}
use Rattle.falling.proofs.Negating.{all_map, length-mapped}
use Rattle.falling.proofs.Tried.{cause_of_at}
use Rattle.falling.proofs.Widths.{take_all}

take_next : {X Y : Type 0} (f : X → Y) (xs : List X) (i : ℕ) (x : X) → slice_get xs i ≡ Some x → map f (take (suc i) xs) ≡ map f (take i xs) ++ f x ∷ []
take_next f [] i x at_x = absurd (cc)
take_next f (y ∷ xs) zero x at_x = ap (λ z. f z ∷ []) (same_of y x at_x) where
  same_of : {X : Type 0} (a b : X) → Some a ≡ Some b → a ≡ b
  same_of a b e = cc
take_next f (y ∷ xs) (suc i) x at_x = ap (λ r. f y ∷ r) (take_next f xs i x at_x)

pub map_take_more : {X Y : Type 0} (f : X → Y) (xs : List X) (i : ℕ) (x : X) → slice_get xs i ≡ Some x → map f (take (i + 1) xs) ≡ map f (take i xs) ++ f x ∷ []
map_take_more f xs i x at_x = rw add-one (take_next f xs i x at_x)

-- one more cause
pub causes_next : (net : Net) (number i : ℕ) (k : Constraint) (before after : List Cause) (c made : Cause) → slice_get net.constraints number ≡ Some k → cause_at net number i ≡ Some c
    → made ≡ negated_cause c → after ≡ before ++ made ∷ [] → before ≡ map negated_cause (take i k.causes) → after ≡ map negated_cause (take (i + 1) k.causes)
causes_next net number i k before after c made at_k at_c is_made is_after is_before =
    rw (map_take_more negated_cause k.causes i c (cause_of_at net number i k c at_k at_c), is_after, is_made, is_before) refl

-- all causes
pub causes_all : (net : Net) (number count i : ℕ) (k : Constraint) (causes : List Cause) → IsNet net → option_map cause_count_of (slice_get net.constraints number) ≡ Some count
    → (i < count → ⊥) → slice_get net.constraints number ≡ Some k → causes ≡ map negated_cause (take i k.causes) → length k.causes ≤ i → causes ≡ map negated_cause k.causes
causes_all net number count i k causes is_net counted past at_k is all = is ∙ ap (map negated_cause) (take_all k.causes i all)

pub on_ok : {T E : Type 0} (r : Result T E) (P Q : Type 0) → (P → Q) → OnOk r P → OnOk r Q
on_ok (Ok x) P Q follows h = follows h
on_ok (Err e) P Q follows h = h

pub count_turns : (kind : RuleKind) (count : ℕ) → IsCauseCount kind count → IsCauseCount (negated_kind kind) count
count_turns Lin count h = h
count_turns Late count h = h
count_turns Early count h = h

-- the negation of a constraint has as many causes as its kind may have, on events of the network
pub negated_fits : (net : Net) (number : ℕ) (kind : RuleKind) (t : EventId) (cs : List Cause) → IsNet net
    → option_map (λ (c : Constraint). c.kind) (slice_get net.constraints number) ≡ Some kind
    → option_map (λ (c : Constraint). c.target) (slice_get net.constraints number) ≡ Some t → AreNegatedCauses net number cs
    → IsConstraint net.events (record { kind = negated_kind kind; target = t; causes = cs })
negated_fits net number kind t cs is_net is_kind is_target are =
    let (k, at_k, same_kind) = mapped_some (λ (c : Constraint). c.kind) (slice_get net.constraints number) kind is_kind in
    let (j, at_j, same_target) = mapped_some (λ (c : Constraint). c.target) (slice_get net.constraints number) t is_target in
    let is : IsConstraint net.events k = All-found (IsConstraint net.events) net.constraints number k at_k is_net.constraints in
    let is_j : IsConstraint net.events j = All-found (IsConstraint net.events) net.constraints number j at_j is_net.constraints in
    let made : cs ≡ map negated_cause k.causes = are k at_k in
    let same_length : length cs ≡ length k.causes = ap length made ∙ length-mapped negated_cause k.causes in
    let counts : IsCauseCount kind (length k.causes) = subst (λ (r : RuleKind). IsCauseCount r (length k.causes)) same_kind is.count in
    record {
      target = subst (λ (x : EventId). x.0 < net.events) same_target is_j.target;
      causes = subst (All (λ (c : Cause). c.event.0 < net.events)) (sym made)
          (all_map negated_cause (λ (c : Cause). c.event.0 < net.events) (λ (c : Cause). c.event.0 < net.events) k.causes (λ c h. h) is.causes);
      count = subst (IsCauseCount (negated_kind kind)) (sym same_length) (count_turns kind (length k.causes) counts);
    }

abbrev of_parts : RuleKind → EventId → List Cause → Constraint
of_parts kind t cs = record { kind = kind; target = t; causes = cs }

constraint_is : (kind : RuleKind) (t : EventId) (cs : List Cause) (other_kind : RuleKind) (other : EventId) (others : List Cause) → kind ≡ other_kind → t ≡ other → cs ≡ others
    → of_parts kind t cs ≡ of_parts other_kind other others
constraint_is kind t cs other_kind other others p q r = rw (p, q, r) refl

kind_at : (o : Option Constraint) (k : Constraint) (kind : RuleKind) → o ≡ Some k → option_map (λ (x : Constraint). x.kind) o ≡ Some kind → k.kind ≡ kind
kind_at None k kind e h = absurd (cc)
kind_at (Some j) k kind e h = cc

target_at : (o : Option Constraint) (k : Constraint) (t : EventId) → o ≡ Some k → option_map (λ (x : Constraint). x.target) o ≡ Some t → k.target ≡ t
target_at None k t e h = absurd (cc)
target_at (Some j) k t e h = cc

-- the negation of a constraint was added
pub negated_added : {T E : Type 0} (r : Result T E) (net : Net) (number : ℕ) (kind : RuleKind) (t : EventId) (cs : List Cause) (before after : Net)
    → option_map (λ (x : Constraint). x.kind) (slice_get net.constraints number) ≡ Some kind → option_map (λ (x : Constraint). x.target) (slice_get net.constraints number) ≡ Some t
    → AreNegatedCauses net number cs → OnOk r (after ≡ with_constraint before (of_parts (negated_kind kind) t cs))
    → OnOk r ((k : Constraint) → slice_get net.constraints number ≡ Some k → after.constraints ≡ before.constraints ++ negated_constraint k ∷ [])
negated_added r net number kind t cs before after is_kind is_target are added =
    on_ok r (after ≡ with_constraint before (of_parts (negated_kind kind) t cs))
    ((k : Constraint) → slice_get net.constraints number ≡ Some k → after.constraints ≡ before.constraints ++ negated_constraint k ∷ [])
    (λ is k at_k.
    ap (λ (n : Net). n.constraints) is ∙ ap (λ (x : Constraint). before.constraints ++ x ∷ []) (constraint_is (negated_kind kind) t cs (negated_kind k.kind) k.target (map negated_cause k.causes)
    (sym (ap negated_kind (kind_at (slice_get net.constraints number) k kind at_k is_kind))) (sym (target_at (slice_get net.constraints number) k t at_k is_target)) (are k at_k))) added

abbrev net_of : ℕ → List Constraint → Net
net_of events ks = record { events = events; constraints = ks }

net_is : (events others : ℕ) (ks js : List Constraint) → events ≡ others → ks ≡ js → net_of events ks ≡ net_of others js
net_is events others ks js p q = rw (p, q) refl

-- one more constraint
pub negation_next : (net : Net) (i : ℕ) (before after : Net) → i < length net.constraints → after.events ≡ before.events
    → ((k : Constraint) → slice_get net.constraints i ≡ Some k → after.constraints ≡ before.constraints ++ negated_constraint k ∷ [])
    → before ≡ record { events = net.events; constraints = map negated_constraint (take i net.constraints) }
    → after ≡ record { events = net.events; constraints = map negated_constraint (take (i + 1) net.constraints) }
negation_next net i before after within same added is =
    let (k, at_k) = found_below net.constraints i within in
    net_is after.events net.events after.constraints (map negated_constraint (take (i + 1) net.constraints)) (same ∙ ap (λ (n : Net). n.events) is)
    ((added k at_k ∙ ap (λ (n : Net). n.constraints ++ negated_constraint k ∷ []) is) ∙ sym (map_take_more negated_constraint net.constraints i k at_k))

-- all constraints
pub negation_all : (net : Net) (i : ℕ) (negation : Net) → length net.constraints ≤ i
    → negation ≡ record { events = net.events; constraints = map negated_constraint (take i net.constraints) } → negation ≡ negated net
negation_all net i negation past is =
    is ∙ net_is net.events net.events _ _ refl (ap (map negated_constraint) (take_all net.constraints i past))
