-- The widest end of the causes and constraints so far.
use Rattle.std.proofs.Common.{◌≡◌, ◌+◌, ◌<◌, ◌≤◌, ℕ, zero, suc, max, List, [], ◌∷◌, length, take, Some, IsSome, option_map, slice_get, sym, ap, ◌∙◌, refl, subst, add-one, arith}
use Rattle.event_graph.specs.declared.cause.Cause.{Cause}
use Rattle.event_graph.specs.Network.{Constraint, IsConstraint, IsNet, Net, cause_at, cause_count_of}
use Rattle.event_graph.proofs.EdgesMet.{All-found}
use Rattle.event_graph.proofs.Causes.{count_most, counted_is}
use Rattle.falling.specs.Cap.{end_size, widest_of, widest_of_causes}
use Rattle.falling.proofs.Tried.{cause_of_at}
use Rattle.itv_base.proofs.Options.{some_at}

-- the wider end of a cause
abbrev pub cause_size : Cause → ℕ
cause_size c = max (end_size c.range.low) (end_size c.range.high)

max_left : (a b c d : ℕ) → a ≡ max b c → max d a ≡ max b (max d c)
max_left a b c d e = grind arith

more_causes : (cs : List Cause) (i : ℕ) (c : Cause) → slice_get cs i ≡ Some c
    → widest_of_causes (take (suc i) cs) ≡ max (cause_size c) (widest_of_causes (take i cs))
more_causes [] i c at_c = absurd (cc)
more_causes (d ∷ cs) zero c at_c = ap (λ x. max (cause_size x) 0) (same_of d c at_c) where
  same_of : (a b : Cause) → Some a ≡ Some b → a ≡ b
  same_of a b e = cc
more_causes (d ∷ cs) (suc i) c at_c = max_left _ _ _ (cause_size d) (more_causes cs i c at_c)

pub widest_more_causes : (cs : List Cause) (i : ℕ) (c : Cause) → slice_get cs i ≡ Some c
    → widest_of_causes (take (i + 1) cs) ≡ max (cause_size c) (widest_of_causes (take i cs))
widest_more_causes cs i c at_c = rw add-one (more_causes cs i c at_c)

more_constraints : (ks : List Constraint) (i : ℕ) (k : Constraint) → slice_get ks i ≡ Some k
    → widest_of (take (suc i) ks) ≡ max (widest_of_causes k.causes) (widest_of (take i ks))
more_constraints [] i k at_k = absurd (cc)
more_constraints (d ∷ ks) zero k at_k = ap (λ (x : Constraint). max (widest_of_causes x.causes) 0) (same_of d k at_k) where
  same_of : (a b : Constraint) → Some a ≡ Some b → a ≡ b
  same_of a b e = cc
more_constraints (d ∷ ks) (suc i) k at_k = max_left _ _ _ (widest_of_causes d.causes) (more_constraints ks i k at_k)

pub widest_more : (ks : List Constraint) (i : ℕ) (k : Constraint) → slice_get ks i ≡ Some k → widest_of (take (i + 1) ks) ≡ max (widest_of_causes k.causes) (widest_of (take i ks))
widest_more ks i k at_k = rw add-one (more_constraints ks i k at_k)

-- each of the named causes is there, and so is the first
pub there_below : (net : Net) (number count i : ℕ) → i < max count 1 → ((j : ℕ) → j < count → IsSome (cause_at net number j)) → IsSome (cause_at net number 0)
    → IsSome (cause_at net number i)
there_below net number zero i below each first = let none : i ≡ 0 = omega arith in rw none first
there_below net number (suc count) i below each first = each i (omega arith)

pub take_all : {X : Type 0} (xs : List X) (i : ℕ) → length xs ≤ i → take i xs ≡ xs
take_all [] zero all = refl
take_all [] (suc i) all = refl
take_all (x ∷ xs) zero all = absurd (omega arith)
take_all (x ∷ xs) (suc i) all = ap (λ r. x ∷ r) (take_all xs i (omega arith))

-- one more cause
pub width_next : (net : Net) (number i : ℕ) (k : Constraint) (before now here : ℕ) → slice_get net.constraints number ≡ Some k → IsSome (cause_at net number i)
    → ((c : Cause) → cause_at net number i ≡ Some c → here ≡ cause_size c) → now ≡ max here before → before ≡ widest_of_causes (take i k.causes)
    → now ≡ widest_of_causes (take (i + 1) k.causes)
width_next net number i k before now here at_k some size is_now is_before =
    let (c, at_c) = some_at (cause_at net number i) some in
    let is_here : here ≡ cause_size c = size c at_c in
    let more : widest_of_causes (take (i + 1) k.causes) ≡ max (cause_size c) (widest_of_causes (take i k.causes)) =
    widest_more_causes k.causes i c (cause_of_at net number i k c at_k at_c) in
    rw (more, is_now, is_here, is_before) refl

-- the loop has seen every cause
pub all_seen : (net : Net) (number count i : ℕ) (k : Constraint) → IsNet net → option_map cause_count_of (slice_get net.constraints number) ≡ Some count
    → slice_get net.constraints number ≡ Some k → max count 1 ≤ i → length k.causes ≤ i
all_seen net number count i k is_net counted at_k past =
    let is : IsConstraint net.events k = All-found (IsConstraint net.events) net.constraints number k at_k is_net.constraints in
    let same : cause_count_of k ≡ count = counted_is cause_count_of (slice_get net.constraints number) k count counted at_k in
    let most : length k.causes ≤ max (cause_count_of k) 1 = count_most k.kind (length k.causes) is.count in
    let past_named : max (cause_count_of k) 1 ≤ i = subst (λ n. max n 1 ≤ i) (sym same) past in
    omega arith

pub width_all : (net : Net) (number count i width : ℕ) (k : Constraint) → IsNet net → option_map cause_count_of (slice_get net.constraints number) ≡ Some count
    → slice_get net.constraints number ≡ Some k → max count 1 ≤ i → width ≡ widest_of_causes (take i k.causes) → width ≡ widest_of_causes k.causes
width_all net number count i width k is_net counted at_k past is =
    is ∙ ap widest_of_causes (take_all k.causes i (all_seen net number count i k is_net counted at_k past))

-- one more constraint
pub widest_next : (net : Net) (i before now here : ℕ) → i < length net.constraints → ((k : Constraint) → slice_get net.constraints i ≡ Some k → here ≡ widest_of_causes k.causes)
    → now ≡ max here before → before ≡ widest_of (take i net.constraints) → now ≡ widest_of (take (i + 1) net.constraints)
widest_next net i before now here within size is_now is_before =
    let (k, at_k) = found net.constraints i within in
    rw (widest_more net.constraints i k at_k, is_now, size k at_k, is_before) refl where
      found : (ks : List Constraint) (i : ℕ) → i < length ks → (k : Constraint) × (slice_get ks i ≡ Some k)
      found [] i within = absurd (omega arith)
      found (k ∷ ks) zero within = (k, refl)
      found (k ∷ ks) (suc i) within = found ks i (omega arith)

pub widest_all : (net : Net) (i width : ℕ) → length net.constraints ≤ i → width ≡ widest_of (take i net.constraints) → width ≡ widest_of net.constraints
widest_all net i width past is = is ∙ ap widest_of (take_all net.constraints i past)
