-- The times of some cycles of a longer run satisfy the network of so many cycles.
use Rattle.std.proofs.Common.{◌≡◌, ℕ, ◌+◌, ◌-◌, ◌*◌, ◌<◌, ◌≤◌, ℤ, pos, ◌+ℤ◌, ◌≤ℤ◌, true, List, [], ◌∷◌, length, map, drop, get_or, All, Any, Option, IfSome, refl, ap, sym, ◌∙◌, subst, arith}
use Rattle.std.specs.Prelude.{nat_le}
use Rattle.std.specs.List.{AllZip, filter_map, list_all}
use Rattle.std.proofs.lemmas.Bool.{leb-true, le-leb}
use Rattle.std.proofs.lemmas.Nat.{mul-add-lt}
use Rattle.std.proofs.lemmas.List.{get_or-take, get_or-drop, length-drop, length-take-le}
use Rattle.std.proofs.lemmas.List.Elements.{All-head, All-nil, All-tail}
use native.Mathlib.Nat.{add-mul}
use Rattle.itv_base.proofs.Bools.{both_true}
use Rattle.itv_base.specs.Range.{Ends}
use Rattle.itv_base.specs.declared.names.EventId.{EventId}
use Rattle.itv_base.specs.declared.names.RuleKind.{RuleKind}
use Rattle.itv_base.specs.declared.names.RuleKind.TheVariants.{Lin, Late, Early}
use Rattle.event_graph.specs.declared.cause.Cause.{Cause}
use Rattle.event_graph.specs.Satisfying.{Holds, HoldsAs, IsAfter, IsBefore, Satisfies}
use Rattle.event_graph.specs.Times.{time_of}
use Rattle.sheet.specs.declared.rule.RuleCause.{RuleCause}
use Rattle.sheet.specs.Rule.{RuleView}
use Rattle.compose.specs.Numbers.{mark_count}
use Rattle.unroll.specs.Cycle.{rules_of}
use Rattle.unroll.specs.Cycles.{cause_in, constraint_in, event_in, rule_exists}
use Rattle.unroll.specs.Step.Between.{IsRuleBetween}
use Rattle.unroll.proofs.BetweenLists.{all_rules_between}
use Rattle.unroll.proofs.NameLists.{All-in_cycles}
use Rattle.longer_runs.specs.WindowLaws.{InconsistentStays, WindowsSatisfy}
use Rattle.longer_runs.specs.Windows.{net_over, window}
use Rattle.longer_runs.proofs.Lists.{all_in_cycle, all_same, any_same, are_true, one_more}

-- ---- the time of an event

cycles_apart : (first cycle marks : ℕ) → (first + cycle) * marks ≡ first * marks + cycle * marks
cycles_apart first cycle marks = add-mul first cycle marks

-- an event has the time that it has so many cycles later in the longer run
pub time_in_window : (marks first cycles cycle mark : ℕ) (times : List ℤ) → cycle < cycles → mark < marks
    → time_of times (event_in marks (first + cycle) mark) ≡ time_of (window marks first cycles times) (event_in marks cycle mark)
time_in_window marks first cycles cycle mark times less below =
    let within : cycle * marks + mark < cycles * marks = omega (arith, mul-add-lt cycle marks mark cycles less below) in
    let place : first * marks + (cycle * marks + mark) ≡ (first + cycle) * marks + mark = omega (arith, cycles_apart first cycle marks) in
    sym (get_or-take (cycles * marks) (drop (first * marks) times) (cycle * marks + mark) (pos 0) within
    ∙ get_or-drop (first * marks) times (cycle * marks + mark) (pos 0)
    ∙ ap (λ i. get_or times i (pos 0)) place)

-- ---- one cause

-- a cause in the longer run and one in the window have one range and one time
record IsSameCause (long short : List ℤ) (c d : Cause) : Type 0 where
  time : time_of long c.event ≡ time_of short d.event
  range : c.range ≡ d.range

after_moved : (low other : Option ℤ) (a b x y : ℤ) → low ≡ other → a ≡ b → x ≡ y → IfSome low (λ l. (a +ℤ l) ≤ℤ x) → IfSome other (λ l. (b +ℤ l) ≤ℤ y)
after_moved low other a b x y p q r h =
    subst (λ o. IfSome o (λ l. (b +ℤ l) ≤ℤ y)) p (subst (λ z. IfSome low (λ l. (z +ℤ l) ≤ℤ y)) q (subst (λ z. IfSome low (λ l. (a +ℤ l) ≤ℤ z)) r h))

before_moved : (high other : Option ℤ) (a b x y : ℤ) → high ≡ other → a ≡ b → x ≡ y → IfSome high (λ l. x ≤ℤ (a +ℤ l)) → IfSome other (λ l. y ≤ℤ (b +ℤ l))
before_moved high other a b x y p q r h =
    subst (λ o. IfSome o (λ l. y ≤ℤ (b +ℤ l))) p (subst (λ z. IfSome high (λ l. y ≤ℤ (z +ℤ l))) q (subst (λ z. IfSome high (λ l. z ≤ℤ (a +ℤ l))) r h))

after_same : (long short : List ℤ) (t u : EventId) → time_of long t ≡ time_of short u → (c d : Cause) → IsSameCause long short c d → IsAfter long t c → IsAfter short u d
after_same long short t u target c d same h = after_moved c.range.low d.range.low _ _ _ _ (ap (λ (r : Ends). r.low) same.range) same.time target h

before_same : (long short : List ℤ) (t u : EventId) → time_of long t ≡ time_of short u → (c d : Cause) → IsSameCause long short c d → IsBefore long t c → IsBefore short u d
before_same long short t u target c d same h = before_moved c.range.high d.range.high _ _ _ _ (ap (λ (r : Ends). r.high) same.range) same.time target h

-- ---- a constraint

holds_same : (kind : RuleKind) (long short : List ℤ) (t u : EventId) (cs ds : List Cause) → time_of long t ≡ time_of short u → AllZip (IsSameCause long short) cs ds
    → HoldsAs kind long t cs → HoldsAs kind short u ds
holds_same kind long short t u cs ds target pairs =
    let all_after : All (IsAfter long t) cs → All (IsAfter short u) ds = all_same (IsSameCause long short) _ _ cs ds pairs (after_same long short t u target) in
    let all_before : All (IsBefore long t) cs → All (IsBefore short u) ds = all_same (IsSameCause long short) _ _ cs ds pairs (before_same long short t u target) in
    let any_after : Any (IsAfter long t) cs → Any (IsAfter short u) ds = any_same (IsSameCause long short) _ _ cs ds pairs (after_same long short t u target) in
    let any_before : Any (IsBefore long t) cs → Any (IsBefore short u) ds = any_same (IsSameCause long short) _ _ cs ds pairs (before_same long short t u target) in
    elim kind as (λ k. HoldsAs k long t cs → HoldsAs k short u ds) [
      | Lin ↦ λ h. (all_after h.0, all_before h.1)
      | Late ↦ λ h. (all_after h.0, any_before h.1)
      | Early ↦ λ h. (all_before h.0, any_after h.1)
    ]

-- the causes of a rule that exists in a cycle of the window
causes_same : (marks first cycles cycle : ℕ) (times : List ℤ) (causes : List RuleCause) → cycle < cycles → All (λ (source : RuleCause). source.mark < marks) causes
    → list_all (λ (source : RuleCause). nat_le source.shift cycle) causes ≡ true
    → AllZip (IsSameCause times (window marks first cycles times)) (map (cause_in marks (first + cycle)) causes) (map (cause_in marks cycle) causes)
causes_same marks first cycles cycle times [] less below exist = tt
causes_same marks first cycles cycle times (source ∷ causes) less below exist =
    let parts = both_true (nat_le source.shift cycle) (list_all (λ (s : RuleCause). nat_le s.shift cycle) causes) exist in
    let back : source.shift ≤ cycle = leb-true source.shift cycle parts.0 in
    let same : (first + cycle) - source.shift ≡ first + (cycle - source.shift) = omega (arith, back) in
    let below_here : source.mark < marks = All-head (λ (s : RuleCause). s.mark < marks) source causes below in
    let time = ap (λ k. time_of times (event_in marks k source.mark)) same ∙ time_in_window marks first cycles (cycle - source.shift) source.mark times (omega (arith, less)) below_here in
    (record { time = time; range = refl }, causes_same marks first cycles cycle times causes less (All-tail (λ (s : RuleCause). s.mark < marks) source causes below) parts.1)

-- ---- a cycle

exist_later : (first cycle : ℕ) (causes : List RuleCause) → list_all (λ (source : RuleCause). nat_le source.shift cycle) causes ≡ true
    → list_all (λ (source : RuleCause). nat_le source.shift (first + cycle)) causes ≡ true
exist_later first cycle [] h = h
exist_later first cycle (source ∷ causes) h =
    let parts = both_true (nat_le source.shift cycle) (list_all (λ (s : RuleCause). nat_le s.shift cycle) causes) h in
    let back : source.shift ≤ cycle = leb-true source.shift cycle parts.0 in
    are_true _ _ (le-leb source.shift (first + cycle) (omega (arith, back))) (exist_later first cycle causes parts.1)

cycle_holds : (marks first cycles cycle : ℕ) (times : List ℤ) (rules : List RuleView) → cycle < cycles → All (IsRuleBetween marks) rules
    → All (Holds times) (filter_map (constraint_in marks (first + cycle)) rules) → All (Holds (window marks first cycles times)) (filter_map (constraint_in marks cycle) rules)
cycle_holds marks first cycles cycle times [] less between all = All-nil (Holds (window marks first cycles times))
cycle_holds marks first cycles cycle times (rule ∷ rules) less between all =
    let here = All-head (IsRuleBetween marks) rule rules between in
    let target = time_in_window marks first cycles cycle rule.target times less here.target in
    one_more (rule_exists (first + cycle) rule) (rule_exists cycle rule) (Holds times) (Holds (window marks first cycles times))
    (record { kind = rule.kind; target = event_in marks (first + cycle) rule.target; causes = map (cause_in marks (first + cycle)) rule.causes })
    (record { kind = rule.kind; target = event_in marks cycle rule.target; causes = map (cause_in marks cycle) rule.causes })
    (filter_map (constraint_in marks (first + cycle)) rules) (filter_map (constraint_in marks cycle) rules)
    (exist_later first cycle rule.causes)
    (λ exist h. holds_same rule.kind times (window marks first cycles times) _ _ _ _ target (causes_same marks first cycles cycle times rule.causes less here.causes exist) h)
    (cycle_holds marks first cycles cycle times rules less (All-tail (IsRuleBetween marks) rule rules between))
    all

-- ---- the network

window_length : (marks first cycles more : ℕ) (times : List ℤ) → length times ≡ (first + cycles + more) * marks → length (window marks first cycles times) ≡ cycles * marks
window_length marks first cycles more times count =
    let sum : (first + cycles + more) * marks ≡ first * marks + cycles * marks + more * marks = cycles_apart (first + cycles) more marks ∙ ap (λ n. n + more * marks) (cycles_apart first cycles marks) in
    length-take-le (cycles * marks) (drop (first * marks) times) (omega (arith, count, sum, length-drop (first * marks) times))

pub windows_satisfy : WindowsSatisfy
windows_satisfy d cycles first more times is_design h =
    let marks : ℕ = mark_count d.sheets in
    record {
      count = window_length marks first cycles more times h.count;
      each = All-in_cycles (Holds (window marks first cycles times)) (λ cycle. filter_map (constraint_in marks cycle) (rules_of d)) cycles (λ cycle less.
          cycle_holds marks first cycles cycle times (rules_of d) less (all_rules_between d is_design)
          (all_in_cycle (Holds times) (λ k. filter_map (constraint_in marks k) (rules_of d)) (first + cycles + more) (first + cycle) (omega (arith, less)) h.each));
    }

pub inconsistent_stays : InconsistentStays
inconsistent_stays d cycles more is_design none times h =
    let same : cycles + more ≡ 0 + cycles + more = omega arith in
    none (window (mark_count d.sheets) 0 cycles times) (windows_satisfy d cycles 0 more times is_design (subst (λ n. Satisfies times (net_over n d)) same h))
