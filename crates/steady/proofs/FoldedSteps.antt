-- One cycle with all rules of a design.
use Rattle.std.proofs.Common.{◌≡◌, ℕ, ℤ, ◌+ℤ◌, ◌-ℤ◌, ◌<◌, ◌*◌, List, length, map, All, Option, Some, None, IfSome, ap, sym, ◌∙◌, subst, arith}
use Rattle.std.proofs.lemmas.Int.{ints}
use Rattle.std.proofs.lemmas.List.{length-map}
use Rattle.std.proofs.lemmas.List.Elements.{All-map, All-weaker}
use Rattle.itv_base.specs.declared.names.Side.{Side}
use Rattle.event_graph.specs.Network.{Constraint, Net}
use Rattle.event_graph.specs.Satisfying.{Satisfies}
use Rattle.sheet.specs.declared.row.SheetRow.{SheetRow}
use Rattle.sheet.specs.declared.rule.RuleCause.{RuleCause}
use Rattle.sheet.specs.Rule.{RuleView}
use Rattle.unroll.specs.Cycles.{constraints_of}
use Rattle.unroll.specs.Step.Between.{IsRuleBetween}
use Rattle.longer_runs.specs.Folding.{rule_folded, source_folded}
use Rattle.longer_runs.specs.PeriodLaws.{IsRowInStep}
use Rattle.longer_runs.specs.Periods.{constraint_folded, mark_event, period_at, periods}
use Rattle.longer_runs.proofs.Folding.{folded_is_drawn}
use Rattle.steady.specs.Extremes.{IsExtremeFound}
use Rattle.steady.specs.Steady.{AttainSteadily, folded_rules}
use Rattle.steady.specs.Step.{IsClosedAt, IsFoldedFor, SeparateIn}
use Rattle.steady.specs.declared.extreme.Extreme.{Extreme}
use Rattle.steady.specs.declared.extreme.Extreme.TheVariants.{Closed, Unbounded, Open}
use Rattle.steady.specs.declared.folded.Folded.{Folded}

-- ---- the network

-- folded rules are between the same marks
pub folded_between : (each : List ℤ) (marks : ℕ) (rules : List RuleView) → All (IsRuleBetween marks) rules → All (IsRuleBetween marks) (map (rule_folded each) rules)
folded_between each marks rules between =
    All-map (IsRuleBetween marks) (rule_folded each) rules (All-weaker (IsRuleBetween marks) (λ rule. IsRuleBetween marks (rule_folded each rule)) (one each marks) rules between) where
      one : (each : List ℤ) (marks : ℕ) (rule : RuleView) → IsRuleBetween marks rule → IsRuleBetween marks (rule_folded each rule)
      one each marks rule h = record {
        target = h.target;
        causes = All-map (λ (source : RuleCause). source.mark < marks) (source_folded (period_at each rule.target)) rule.causes h.causes;
        count = rw (length-map rule.causes (source_folded (period_at each rule.target))) h.count;
      }

-- they draw as many constraints as there are rules
pub folded_count : (each : List ℤ) (marks : ℕ) (rules : List RuleView) → length (constraints_of marks (map (rule_folded each) rules) 1) ≡ length rules
folded_count each marks rules = ap length (folded_is_drawn each marks rules) ∙ length-map rules (constraint_folded each)

-- over one cycle they draw the folded rules
pub folded_drawn : (each : List ℤ) (marks : ℕ) (rules folded : List RuleView) (net : Net) → folded ≡ map (rule_folded each) rules
    → net ≡ record { events = 1 * marks; constraints = constraints_of marks folded 1 } → net ≡ folded_rules each marks rules
folded_drawn each marks rules folded net is drawn =
    let one : 1 * marks ≡ marks = omega arith in
    let all : constraints_of marks folded 1 ≡ map (constraint_folded each) rules = ap (λ rs. constraints_of marks rs 1) is ∙ folded_is_drawn each marks rules in
    let target : Net = folded_rules each marks rules in
    drawn ∙ ap (λ (n : ℕ). record target { events = n; constraints = constraints_of marks folded 1 }) one ∙ ap (λ (cs : List Constraint). record target { constraints = cs }) all

-- ---- the separation of a row

sum_back : (value by apart : ℤ) → apart ≡ value -ℤ by → apart +ℤ by ≡ value
sum_back value by apart is = omega (arith, ints)

-- what is found of a pair gives a separation of a row in steady times
pub separates_in : (side : Side) (net : Net) (each : List ℤ) (row : SheetRow) (found : Extreme) (value : ℤ) → IsExtremeFound side net (mark_event row.from) (mark_event row.to) found
    → IsRowInStep each row → IsClosedAt found (value -ℤ periods (period_at each row.from) row.shift) → SeparateIn net each row value
separates_in side net each row (Closed apart times) value found in_step is = record {
  times = times.items;
  satisfied = found.satisfied;
  in_step = in_step;
  separates = ap (λ z. z +ℤ periods (period_at each row.from) row.shift) found.attained ∙ sum_back value (periods (period_at each row.from) row.shift) apart is;
}
separates_in side net each row Unbounded value found in_step is = absurd is
separates_in side net each row Open value found in_step is = absurd is

-- the same for an answer, given the periods of the two marks
pub separated : (side : Side) (net : Net) (each : List ℤ) (row : SheetRow) (found : Extreme) (answer : Option ℤ) (used one two : ℤ) → IsExtremeFound side net (mark_event row.from) (mark_event row.to) found
    → used ≡ one → one ≡ period_at each row.from → two ≡ period_at each row.to → one ≡ two → IfSome answer (λ value. IsClosedAt found (value -ℤ periods used row.shift))
    → IfSome answer (SeparateIn net each row)
separated side net each row found None used one two is read from to same h = tt
separated side net each row found (Some value) used one two is read from to same h =
    separates_in side net each row found value is (sym from ∙ same ∙ to) (subst (λ (z : ℤ). IsClosedAt found (value -ℤ periods z row.shift)) (read ∙ from) h)

-- so do the searches of one cycle
pub attain_steadily : (marks : ℕ) (rules : List RuleView) (folded : Folded) (row : SheetRow) (value : ℤ) → IsFoldedFor marks rules folded → SeparateIn folded.net folded.each.items row value
    → AttainSteadily marks rules row value
attain_steadily marks rules folded row value is h = record {
  each = folded.each.items;
  times = h.times;
  period = record { steps = is.steps; satisfied = subst (Satisfies h.times) is.net h.satisfied };
  in_step = h.in_step;
  separates = h.separates;
}

pub some_attain : (marks : ℕ) (rules : List RuleView) (folded : Folded) (row : SheetRow) (answer : Option ℤ) → IsFoldedFor marks rules folded → IfSome answer (SeparateIn folded.net folded.each.items row)
    → IfSome answer (AttainSteadily marks rules row)
some_attain marks rules folded row None is h = tt
some_attain marks rules folded row (Some value) is h = attain_steadily marks rules folded row value is h
