-- Steady times satisfy the network of every number of cycles.
use Rattle.std.proofs.Common.{inl, inr, ◌≡◌, ℕ, zero, suc, ◌+◌, ◌-◌, ◌*◌, ◌<◌, ◌≤◌, ℤ, pos, ◌+ℤ◌, ◌-ℤ◌, ◌<ℤ◌, ◌≤ℤ◌, true, List, [], ◌∷◌, length, map, get_or, All, Any, Option, Some, None, IfSome, refl, ap, sym, ◌∙◌, subst, arith}
use Rattle.std.proofs.lemmas.Int.{ints}
use Rattle.std.specs.Prelude.{nat_le}
use Rattle.std.specs.List.{AllZip, filter_map, list_all}
use Rattle.std.proofs.Math.Seq.{get_or-append_right}
use Rattle.std.proofs.lemmas.Bool.{cases_lt, leb-true}
use Rattle.std.proofs.lemmas.Nat.{mul-add-lt}
use Rattle.std.proofs.lemmas.List.{get_or_append_left}
use Rattle.std.proofs.lemmas.List.Elements.{All-head, All-nil, All-tail}
use Rattle.itv_base.proofs.Bools.{both_true}
use Rattle.itv_base.specs.Range.{Allows}
use Rattle.itv_base.specs.declared.names.EventId.{EventId}
use Rattle.itv_base.specs.declared.names.RuleKind.{RuleKind}
use Rattle.itv_base.specs.declared.names.RuleKind.TheVariants.{Lin, Late, Early}
use Rattle.event_graph.specs.declared.cause.Cause.{Cause}
use Rattle.event_graph.specs.Network.{Constraint}
use Rattle.event_graph.specs.Satisfying.{Holds, HoldsAs, IsAfter, IsBefore}
use Rattle.event_graph.specs.Times.{time_of}
use Rattle.sheet.specs.declared.rule.RuleCause.{RuleCause}
use Rattle.sheet.specs.Rule.{RuleView}
use Rattle.compose.specs.Numbers.{mark_count}
use Rattle.unroll.specs.Cycle.{rules_of}
use Rattle.unroll.specs.Cycles.{cause_in, constraint_in, event_in, in_cycles, rule_exists}
use Rattle.unroll.specs.Step.Between.{IsRuleBetween}
use Rattle.unroll.proofs.BetweenLists.{all_rules_between}
use Rattle.unroll.proofs.NameLists.{All-in_cycles, length-in_cycles}
use Rattle.longer_runs.specs.Periods.{IsInStep, IsPeriod, cause_folded, constraint_folded, end_before, mark_event, period_at, periods, risen, steady}
use Rattle.longer_runs.specs.PeriodLaws.{SteadyBreaks, SteadyIsUnbounded, SteadySatisfies, SteadySeparates}
use Rattle.longer_runs.proofs.Lists.{all_same, any_same, one_more_if}

-- ---- periods

periods_add : (period : ℤ) (m n : ℕ) → periods period (m + n) ≡ periods period m +ℤ periods period n
periods_add period m zero = let same : m + 0 ≡ m = omega arith in rw same (omega (arith, ints))
periods_add period m (suc n) = let same : m + suc n ≡ suc (m + n) = omega arith in let before = periods_add period m n in rw same (omega (arith, ints, before))

-- ---- the time of an event

get_in_cycles : (each : ℕ → List ℤ) (count n cycle place : ℕ) (d : ℤ) → ((cycle : ℕ) → length (each cycle) ≡ count) → cycle < n → place < count
    → get_or (in_cycles each n) (cycle * count + place) d ≡ get_or (each cycle) place d
get_in_cycles each count zero cycle place d same less below = absurd (omega (arith, less))
get_in_cycles each count (suc n) cycle place d same less below =
    let long = length-in_cycles each count n same in
    elim (cases_lt cycle n) [
      | inl before ↦
          let within : cycle * count + place < length (in_cycles each n) = omega (arith, long, mul-add-lt cycle count place n before below) in
          get_or_append_left (in_cycles each n) (each n) d (cycle * count + place) within ∙ get_in_cycles each count n cycle place d same before below
      | inr past ↦
          let is : cycle ≡ n = omega (arith, less, past) in
          let at : cycle * count ≡ length (in_cycles each n) = ap (λ k. k * count) is ∙ sym long in
          let beyond : length (in_cycles each n) ≤ cycle * count + place = omega (arith, at) in
          let rest : (cycle * count + place) - length (in_cycles each n) ≡ place = omega (arith, at) in
          get_or-append_right (in_cycles each n) (each n) (cycle * count + place) d beyond ∙ ap (λ i. get_or (each n) i d) rest ∙ ap (λ k. get_or (each k) place d) (sym is)
    ]

risen_length : (cycle : ℕ) (each times : List ℤ) → length each ≡ length times → length (risen cycle each times) ≡ length times
risen_length cycle [] [] same = refl
risen_length cycle [] (time ∷ times) same = absurd (omega (arith, same))
risen_length cycle (period ∷ each) [] same = refl
risen_length cycle (period ∷ each) (time ∷ times) same = let rest = risen_length cycle each times (omega (arith, same)) in omega (arith, rest)

risen_at : (cycle : ℕ) (each times : List ℤ) (mark : ℕ) → length each ≡ length times → mark < length times
    → get_or (risen cycle each times) mark (pos 0) ≡ get_or times mark (pos 0) +ℤ periods (period_at each mark) cycle
risen_at cycle each [] mark same within = absurd (omega (arith, within))
risen_at cycle [] (time ∷ times) mark same within = absurd (omega (arith, same))
risen_at cycle (period ∷ each) (time ∷ times) zero same within = refl
risen_at cycle (period ∷ each) (time ∷ times) (suc mark) same within = risen_at cycle each times mark (omega (arith, same)) (omega (arith, within))

pub time_in_steady : (each times : List ℤ) (marks cycles cycle mark : ℕ) → length each ≡ marks → length times ≡ marks → cycle < cycles → mark < marks
    → time_of (steady each times cycles) (event_in marks cycle mark) ≡ time_of times (mark_event mark) +ℤ periods (period_at each mark) cycle
time_in_steady each times marks cycles cycle mark steps long less below =
    get_in_cycles (λ k. risen k each times) marks cycles cycle mark (pos 0) (λ k. risen_length k each times (steps ∙ sym long) ∙ long) less below
    ∙ risen_at cycle each times mark (steps ∙ sym long) (omega (arith, long, below))

-- ---- one cause

after_unfolded : (low : Option ℤ) (a b x y by before : ℤ) → b ≡ a +ℤ before → y ≡ x +ℤ (before +ℤ by) → IfSome (end_before by low) (λ l. (a +ℤ l) ≤ℤ x) → IfSome low (λ l. (b +ℤ l) ≤ℤ y)
after_unfolded None a b x y by before p q h = tt
after_unfolded (Some l) a b x y by before p q h = omega (arith, ints, p, q, h)

before_unfolded : (high : Option ℤ) (a b x y by before : ℤ) → b ≡ a +ℤ before → y ≡ x +ℤ (before +ℤ by) → IfSome (end_before by high) (λ l. x ≤ℤ (a +ℤ l)) → IfSome high (λ l. y ≤ℤ (b +ℤ l))
before_unfolded None a b x y by before p q h = tt
before_unfolded (Some l) a b x y by before p q h = omega (arith, ints, p, q, h)

-- what a folded cause asks of the times of a period, the cause asks of other times
record IsUnfolded (short long : List ℤ) (t u : EventId) (c d : Cause) : Type 0 where
  after : IsAfter short t c → IsAfter long u d
  before : IsBefore short t c → IsBefore long u d

holds_unfolded : (kind : RuleKind) (short long : List ℤ) (t u : EventId) (cs ds : List Cause) → AllZip (IsUnfolded short long t u) cs ds → HoldsAs kind short t cs → HoldsAs kind long u ds
holds_unfolded kind short long t u cs ds pairs =
    let all_after : All (IsAfter short t) cs → All (IsAfter long u) ds = all_same (IsUnfolded short long t u) _ _ cs ds pairs (λ c d same. same.after) in
    let all_before : All (IsBefore short t) cs → All (IsBefore long u) ds = all_same (IsUnfolded short long t u) _ _ cs ds pairs (λ c d same. same.before) in
    let any_after : Any (IsAfter short t) cs → Any (IsAfter long u) ds = any_same (IsUnfolded short long t u) _ _ cs ds pairs (λ c d same. same.after) in
    let any_before : Any (IsBefore short t) cs → Any (IsBefore long u) ds = any_same (IsUnfolded short long t u) _ _ cs ds pairs (λ c d same. same.before) in
    elim kind as (λ k. HoldsAs k short t cs → HoldsAs k long u ds) [
      | Lin ↦ λ h. (all_after h.0, all_before h.1)
      | Late ↦ λ h. (all_after h.0, any_before h.1)
      | Early ↦ λ h. (all_before h.0, any_after h.1)
    ]

-- the time of a target, some periods after that of the cycle of a cause
later_time : (time period : ℤ) (cycle shift : ℕ) → shift ≤ cycle → time +ℤ periods period cycle ≡ time +ℤ (periods period (cycle - shift) +ℤ periods period shift)
later_time time period cycle shift back =
    let sum : cycle ≡ (cycle - shift) + shift = omega (arith, back) in
    ap (λ p. time +ℤ p) (ap (periods period) sum ∙ periods_add period (cycle - shift) shift)

causes_unfolded : (each times : List ℤ) (marks cycles cycle target : ℕ) (causes : List RuleCause) → length each ≡ marks → length times ≡ marks → cycle < cycles → target < marks
    → All (λ (source : RuleCause). source.mark < marks) causes → All (λ (source : RuleCause). period_at each source.mark ≡ period_at each target) causes
    → list_all (λ (source : RuleCause). nat_le source.shift cycle) causes ≡ true
    → AllZip (IsUnfolded times (steady each times cycles) (mark_event target) (event_in marks cycle target)) (map (cause_folded (period_at each target)) causes) (map (cause_in marks cycle) causes)
causes_unfolded each times marks cycles cycle target [] steps long less here below in_step exist = tt
causes_unfolded each times marks cycles cycle target (source ∷ causes) steps long less here below in_step exist =
    let Below : RuleCause → Type 0 = λ s. s.mark < marks in
    let InStep : RuleCause → Type 0 = λ s. period_at each s.mark ≡ period_at each target in
    let period : ℤ = period_at each target in
    let parts = both_true (nat_le source.shift cycle) (list_all (λ (s : RuleCause). nat_le s.shift cycle) causes) exist in
    let back : source.shift ≤ cycle = leb-true source.shift cycle parts.0 in
    let from = time_in_steady each times marks cycles (cycle - source.shift) source.mark steps long (omega (arith, less)) (All-head Below source causes below)
    ∙ ap (λ p. time_of times (mark_event source.mark) +ℤ periods p (cycle - source.shift)) (All-head InStep source causes in_step) in
    let to = time_in_steady each times marks cycles cycle target steps long less here ∙ later_time (time_of times (mark_event target)) period cycle source.shift back in (
      record {
        after = after_unfolded source.range.low _ _ _ _ (periods period source.shift) (periods period (cycle - source.shift)) from to;
        before = before_unfolded source.range.high _ _ _ _ (periods period source.shift) (periods period (cycle - source.shift)) from to;
      },
      causes_unfolded each times marks cycles cycle target causes steps long less here (All-tail Below source causes below) (All-tail InStep source causes in_step) parts.1,
    )

-- ---- a cycle, and the network

cycle_unfolded : (each times : List ℤ) (marks cycles cycle : ℕ) (rules : List RuleView) → length each ≡ marks → length times ≡ marks → cycle < cycles → All (IsRuleBetween marks) rules → All (IsInStep each) rules
    → All (Holds times) (map (constraint_folded each) rules) → All (Holds (steady each times cycles)) (filter_map (constraint_in marks cycle) rules)
cycle_unfolded each times marks cycles cycle [] steps long less between in_step all = All-nil (Holds (steady each times cycles))
cycle_unfolded each times marks cycles cycle (rule ∷ rules) steps long less between in_step all =
    let here = All-head (IsRuleBetween marks) rule rules between in
    let c : Constraint = record { kind = rule.kind; target = event_in marks cycle rule.target; causes = map (cause_in marks cycle) rule.causes } in
    one_more_if (rule_exists cycle rule) (Holds (steady each times cycles)) c (filter_map (constraint_in marks cycle) rules)
    (λ exist. holds_unfolded rule.kind times (steady each times cycles) _ _ _ _
    (causes_unfolded each times marks cycles cycle rule.target rule.causes steps long less here.target here.causes (All-head (IsInStep each) rule rules in_step) exist)
    (All-head (Holds times) (constraint_folded each rule) (map (constraint_folded each) rules) all))
    (cycle_unfolded each times marks cycles cycle rules steps long less (All-tail (IsRuleBetween marks) rule rules between) (All-tail (IsInStep each) rule rules in_step) (All-tail (Holds times) (constraint_folded each rule) (map (constraint_folded each) rules) all))

pub steady_satisfies : SteadySatisfies
steady_satisfies d each times cycles is_design h =
    let marks : ℕ = mark_count d.sheets in
    let long : length times ≡ marks = h.satisfied.count in
    record {
      count = length-in_cycles (λ k. risen k each times) marks cycles (λ k. risen_length k each times (h.count ∙ sym long) ∙ long);
      each = All-in_cycles (Holds (steady each times cycles)) (λ cycle. filter_map (constraint_in marks cycle) (rules_of d)) cycles (λ cycle less.
          cycle_unfolded each times marks cycles cycle (rules_of d) h.count long less (all_rules_between d is_design) h.in_step h.satisfied.each);
    }

-- ---- rows

apart : (a b x y by before : ℤ) → b ≡ a +ℤ before → y ≡ x +ℤ (before +ℤ by) → y -ℤ b ≡ (x -ℤ a) +ℤ by
apart a b x y by before p q = omega (arith, ints, p, q)

pub steady_separates : SteadySeparates
steady_separates d each times row cycles cycle is_design row_between h in_step back less =
    let marks : ℕ = mark_count d.sheets in
    let period : ℤ = period_at each row.from in
    let from = time_in_steady each times marks cycles (cycle - row.shift) row.from h.count h.satisfied.count (omega (arith, less)) row_between.from in
    let to = time_in_steady each times marks cycles cycle row.to h.count h.satisfied.count less row_between.to
    ∙ ap (λ p. time_of times (mark_event row.to) +ℤ periods p cycle) (sym in_step)
    ∙ later_time (time_of times (mark_event row.to)) period cycle row.shift back in
    apart _ _ _ _ (periods period row.shift) (periods period (cycle - row.shift)) from to

pub steady_breaks : SteadyBreaks
steady_breaks range d each times row cycles cycle is_design row_between h in_step broken back less every =
    broken (subst (Allows range) (steady_separates d each times row cycles cycle is_design row_between h in_step back less)
    (every (steady each times cycles) (steady_satisfies d each times cycles is_design h)))

beyond : (a b x y from to value : ℤ) → b ≡ a +ℤ from → y ≡ x +ℤ to → ((value +ℤ from) -ℤ to) <ℤ (x -ℤ a) → value <ℤ (y -ℤ b)
beyond a b x y from to value p q h = omega (arith, ints, p, q, h)

pub steady_is_unbounded : SteadyIsUnbounded
steady_is_unbounded d each times row cycles cycle is_design row_between h unbounded back less value =
    let marks : ℕ = mark_count d.sheets in
    let from : ℤ = periods (period_at each row.from) (cycle - row.shift) in
    let to : ℤ = periods (period_at each row.to) cycle in
    let (far, satisfied, past) = unbounded ((value +ℤ from) -ℤ to) in
    let again : IsPeriod each far d = record { count = h.count; in_step = h.in_step; satisfied = satisfied } in
    let from_is = time_in_steady each far marks cycles (cycle - row.shift) row.from h.count satisfied.count (omega (arith, less)) row_between.from in
    let to_is = time_in_steady each far marks cycles cycle row.to h.count satisfied.count less row_between.to in
    (steady each far cycles, steady_satisfies d each far cycles is_design again, beyond _ _ _ _ from to value from_is to_is past)
