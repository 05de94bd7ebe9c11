-- What was tried, and the greatest value of the causes so far.
use Rattle.std.proofs.Common.{◌≡◌, ◌+◌, ◌<◌, ◌≤◌, ◌⊎◌, inl, inr, ℕ, ℤ, ◌+ℤ◌, ◌≤ℤ◌, max, List, All, length, get_or, Option, Some, None, IsSome, IfSome, IfNone, IsSomeAnd, option_map, slice_get, sym, ap, ◌∙◌, refl, subst, arith}
use Rattle.std.proofs.lemmas.Int.{ints}
use Rattle.std.proofs.lemmas.Option.{get_or_from_slice_get, same_Some, slice_get-get_or, slice_get_within}
use Rattle.itv_base.specs.declared.names.EdgeName.{EdgeName}
use Rattle.itv_base.specs.declared.names.RuleKind.{RuleKind}
use Rattle.itv_base.specs.declared.names.RuleKind.TheVariants.{Lin, Late, Early}
use Rattle.itv_base.specs.declared.names.Side.{Side}
use Rattle.itv_base.proofs.Options.{and_some, some_at, mapped_some, then_some, some_and}
use Rattle.event_graph.specs.declared.cause.Cause.{Cause}
use Rattle.event_graph.specs.declared.edge.Edge.{Edge}
use Rattle.event_graph.specs.Edges.{edge}
use Rattle.event_graph.specs.Network.{Constraint, IsConstraint, IsNet, Net, cause_at, cause_count_of, named_causes}
use Rattle.event_graph.specs.Times.{time_of}
use Rattle.event_graph.proofs.EdgesMet.{All-found, cause_of}
use Rattle.event_graph.proofs.Causes.{cause_is, count_most, counted_is}
use Rattle.falling.specs.declared.line.Reason.{Reason}
use Rattle.falling.specs.declared.line.Reason.TheVariants.{ByEdge, ByLatest}
use Rattle.falling.specs.Derivation.{IsLatestHigh, IsFixedPoint}
use Rattle.falling.specs.Step.Turns.{HasOpenHigh, IsConstraintTried, IsHighOf, IsOfKind, IsLatestValue, IsSideTried, IsTried, constraint_of}

-- a loop over the named causes, or over one cause, has seen the cause of each edge that is there
pub cause_below : (net : Net) (number : ℕ) (name : EdgeName) (e : Edge) (count : ℕ) → IsNet net → name.constraint ≡ number → edge net name ≡ Some e
    → option_map cause_count_of (slice_get net.constraints number) ≡ Some count → name.cause < max count 1
cause_below net number name e count is_net is_number is_edge counted =
    let (k, at_k, rest) = then_some _ (slice_get net.constraints name.constraint) e is_edge in
    let (c, at_c, made) = cause_of net name k e at_k is_edge in
    let is : IsConstraint net.events k = All-found (IsConstraint net.events) net.constraints name.constraint k at_k is_net.constraints in
    let within : name.cause < length k.causes = slice_get_within k.causes name.cause c at_c in
    let most : length k.causes ≤ max (cause_count_of k) 1 = count_most k.kind (length k.causes) is.count in
    let same : cause_count_of k ≡ count = counted_is cause_count_of (slice_get net.constraints number) k count counted (ap (slice_get net.constraints) (sym is_number) ∙ at_k) in
    subst (λ n. name.cause < max n 1) same (omega arith)

-- what was tried of each cause was tried of the side
pub side_tried : (net : Net) (values : List ℤ) (number count : ℕ) (side : Side) → IsNet net → option_map cause_count_of (slice_get net.constraints number) ≡ Some count
    → ((k : ℕ) → k < max count 1 → IsTried net values (ByEdge (record { constraint = number; cause = k; side = side }))) → IsSideTried net values number side
side_tried net values number count side is_net counted each name is_number is_side event value allowed =
    let (e, is_edge, rest) = some_and (edge net name) _ allowed.due.1 in
    let below : name.cause < max count 1 = cause_below net number name e count is_net is_number is_edge counted in
    tried_at name is_number is_side (each name.cause below) event value allowed where
      tried_at : (name : EdgeName) → name.constraint ≡ number → name.side ≡ side → IsTried net values (ByEdge (record { constraint = number; cause = name.cause; side = side }))
          → IsTried net values (ByEdge name)
      tried_at name is_number is_side tried =
          subst (λ (s : Side). IsTried net values (ByEdge (record { constraint = name.constraint; cause = name.cause; side = s }))) (sym is_side)
          (subst (λ n. IsTried net values (ByEdge (record { constraint = n; cause = name.cause; side = side }))) (sym is_number) tried)

-- a reason whose constraint is not there allows nothing
past_tried : (net : Net) (values : List ℤ) (reason : Reason) → length net.constraints ≤ constraint_of reason → IsTried net values reason
past_tried net values (ByEdge name) past event value allowed =
    let (e, is_edge, rest) = some_and (edge net name) _ allowed.due.1 in
    let (k, at_k, more) = then_some _ (slice_get net.constraints name.constraint) e is_edge in
    omega (arith, slice_get_within net.constraints name.constraint k at_k)
past_tried net values (ByLatest number) past event value allowed =
    let (k, at_k, rest) = some_and (slice_get net.constraints number) _ allowed.due in
    omega (arith, slice_get_within net.constraints number k at_k)

-- where each constraint was tried the values are settled
pub all_tried : (net : Net) (values : List ℤ) → ((number : ℕ) → number < length net.constraints → IsConstraintTried net values number) → IsFixedPoint net values
all_tried net values each line allowed = elim (below_or_past (constraint_of line.reason) (length net.constraints)) [
  | inl below ↦ each (constraint_of line.reason) below line.reason refl line.event line.value allowed
  | inr past ↦ past_tried net values line.reason past line.event line.value allowed
] where
  below_or_past : (i n : ℕ) → (i < n) ⊎ (n ≤ i)
  below_or_past i n = grind arith

-- one more constraint was tried
pub tried_more : (net : Net) (values : List ℤ) (count : ℕ) → ((k : ℕ) → k < count → IsConstraintTried net values k) → IsConstraintTried net values count
    → (k : ℕ) → k < count + 1 → IsConstraintTried net values k
tried_more net values count each last k below = elim (earlier_or_last k count below) [
  | inl earlier ↦ each k earlier
  | inr same ↦ subst (IsConstraintTried net values) (sym same) last
] where
  earlier_or_last : (k n : ℕ) → k < n + 1 → (k < n) ⊎ (k ≡ n)
  earlier_or_last k n below = grind arith

-- ---- the greatest of the causes' values with their high ends, cause by cause

-- the value that a cause gives with its high end
abbrev pub high_value : List ℤ → Cause → Option ℤ
high_value values c = option_map (λ high. time_of values c.event +ℤ high) c.range.high

-- of the causes so far, each with a finite high end, the greatest value
pub record IsLatestSoFar (net : Net) (values : List ℤ) (number count : ℕ) (value : ℤ) : Type 0 where
  pub most : (k : ℕ) (c : Cause) → k < count → cause_at net number k ≡ Some c → IsSomeAnd (high_value values c) (λ here. here ≤ℤ value)
  pub attained : (k : ℕ) × (c : Cause) × (k < count) × (cause_at net number k ≡ Some c) × (high_value values c ≡ Some value)

-- the first cause alone
pub first_of : (net : Net) (values : List ℤ) (number : ℕ) (value : ℤ) → IsSome (cause_at net number 0) → IsHighOf net values number 0 (Some value) → IsLatestSoFar net values number 1 value
first_of net values number value some high =
    let (c, at_c) = some_at (cause_at net number 0) some in
    record {
      most = λ k d below at_d.
          let first : k ≡ 0 = omega arith in
          let is : Some value ≡ high_value values d = high d (sym (ap (cause_at net number) first) ∙ at_d) in
          and_some (high_value values d) (λ here. here ≤ℤ value) value (sym is) (omega (arith, ints));
      attained = (0, c, omega arith, at_c, sym (high c at_c));
    }

-- one more cause
pub next_of : (net : Net) (values : List ℤ) (number count : ℕ) (before here value : ℤ) → IsSome (cause_at net number count) → IsHighOf net values number count (Some here)
    → before ≤ℤ value → here ≤ℤ value → (value ≡ before) ⊎ (value ≡ here) → IsLatestSoFar net values number count before → IsLatestSoFar net values number (count + 1) value
next_of net values number count before here value some high le_before le_here either so_far =
    let (c, at_c) = some_at (cause_at net number count) some in
    record {
      most = λ k d below at_d. elim (earlier_or_last k count below) [
        | inl earlier ↦ raised (high_value values d) before value le_before (so_far.most k d earlier at_d)
        | inr last ↦
            let is : Some here ≡ high_value values d = high d (sym (ap (cause_at net number) last) ∙ at_d) in
            and_some (high_value values d) (λ x. x ≤ℤ value) here (sym is) le_here
      ];
      attained = elim either [
        | inl old ↦
            let (k, d, below, at_d, is) = so_far.attained in
            (k, d, omega arith, at_d, is ∙ ap Some (sym old))
        | inr new ↦ (count, c, omega arith, at_c, sym (high c at_c) ∙ ap Some (sym new))
      ];
    } where
      earlier_or_last : (k n : ℕ) → k < n + 1 → (k < n) ⊎ (k ≡ n)
      earlier_or_last k n below = grind arith

      raised : (o : Option ℤ) (low high : ℤ) → low ≤ℤ high → IsSomeAnd o (λ x. x ≤ℤ low) → IsSomeAnd o (λ x. x ≤ℤ high)
      raised None low high le h = absurd h
      raised (Some x) low high le h = omega (arith, ints)

-- a cause without a value has an open high end
pub open_of : (net : Net) (values : List ℤ) (number i : ℕ) → IsSome (cause_at net number i) → IsHighOf net values number i None → HasOpenHigh net number
open_of net values number i some high =
    let (c, at_c) = some_at (cause_at net number i) some in
    (i, c, at_c, none_of (time_of values c.event) c.range.high (sym (high c at_c))) where
      none_of : (a : ℤ) (o : Option ℤ) → option_map (λ high. a +ℤ high) o ≡ None → o ≡ None
      none_of a None e = refl
      none_of a (Some h) e = absurd (cc)

pub if_none_then : {X : Type 0} (o : Option X) (P : Type 0) → P → IfNone o P
if_none_then None P h = h
if_none_then (Some x) P h = tt

pub cause_of_at : (net : Net) (number i : ℕ) (k : Constraint) (c : Cause) → slice_get net.constraints number ≡ Some k → cause_at net number i ≡ Some c → slice_get k.causes i ≡ Some c
cause_of_at net number i k c at_k at_c = rw at_k at at_c

finite_high : (a : ℤ) (o : Option ℤ) (value : ℤ) → IsSomeAnd (option_map (λ high. a +ℤ high) o) (λ here. here ≤ℤ value) → IsSome o × IfSome o (λ high. (a +ℤ high) ≤ℤ value)
finite_high a None value h = absurd h
finite_high a (Some x) value h = (refl, h)

attained_high : (a : ℤ) (o : Option ℤ) (value : ℤ) → option_map (λ high. a +ℤ high) o ≡ Some value → IsSomeAnd o (λ high. value ≡ (a +ℤ high))
attained_high a None value e = absurd (cc)
attained_high a (Some x) value e = sym (same_Some _ _ e)

-- all causes of a latest constraint were seen
pub latest_all : (net : Net) (values : List ℤ) (number count : ℕ) (k : Constraint) (value : ℤ) → slice_get net.constraints number ≡ Some k → length k.causes ≤ count
    → IsLatestSoFar net values number count value → All (λ (c : Cause). IsSome c.range.high) k.causes × IsLatestHigh values k.causes value
latest_all net values number count k value at_k all so_far =
    let each : (i : ℕ) (d : Cause) → i < length k.causes → IsSomeAnd (high_value values (get_or k.causes i d)) (λ here. here ≤ℤ value) =
    λ i d within. so_far.most i (get_or k.causes i d) (omega arith) (cause_is net number i k (get_or k.causes i d) at_k (slice_get-get_or k.causes i d within)) in (
      (λ i d within. (finite_high (time_of values (get_or k.causes i d).event) (get_or k.causes i d).range.high value (each i d within)).0),
      record {
        most = λ i d within. (finite_high (time_of values (get_or k.causes i d).event) (get_or k.causes i d).range.high value (each i d within)).1;
        attained =
            let (i, c, below, at_c, is) = so_far.attained in
            let here : slice_get k.causes i ≡ Some c = cause_of_at net number i k c at_k at_c in
            (i, c, slice_get_within k.causes i c here, get_or_from_slice_get k.causes i c c here, attained_high (time_of values c.event) c.range.high value is);
      },
    )

pub kind_of : (net : Net) (number : ℕ) (kind : RuleKind) → IsOfKind net number kind → (k : Constraint) × (slice_get net.constraints number ≡ Some k) × (k.kind ≡ kind)
kind_of net number kind is = mapped_some (λ (c : Constraint). c.kind) (slice_get net.constraints number) kind is

late_count : (kind : RuleKind) (count : ℕ) → kind ≡ Late → named_causes kind count ≡ count
late_count Lin count e = absurd (cc)
late_count Late count e = refl
late_count Early count e = refl

pub latest_value_of : (net : Net) (values : List ℤ) (number named count : ℕ) (value : ℤ) → IsNet net → IsOfKind net number Late → option_map cause_count_of (slice_get net.constraints number) ≡ Some named
    → named ≤ count → IsLatestSoFar net values number count value → IsLatestValue net values number value
latest_value_of net values number named count value is_net is_late counted all so_far =
    let (k, at_k, is_kind) = kind_of net number Late is_late in
    let same : cause_count_of k ≡ named = counted_is cause_count_of (slice_get net.constraints number) k named counted at_k in
    let most : length k.causes ≤ count = omega (arith, late_count k.kind (length k.causes) is_kind) in
    and_some (slice_get net.constraints number) _ k at_k (latest_all net values number count k value at_k most so_far)
