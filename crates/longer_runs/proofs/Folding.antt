-- One cycle of the folded rules draws the one cycle of a period.
use Rattle.std.proofs.Common.{◌≡◌, ℕ, ◌+◌, ◌*◌, ℤ, Bool, true, false, cond, List, [], ◌∷◌, map, Some, None, refl, ap, ◌∙◌, arith}
use Rattle.std.specs.Prelude.{nat_le}
use Rattle.std.specs.List.{cons_option, filter_map, list_all}
use native.Mathlib.Nat.{zero-mul}
use Rattle.event_graph.specs.declared.cause.Cause.{Cause}
use Rattle.event_graph.specs.Network.{Constraint}
use Rattle.sheet.specs.declared.rule.RuleCause.{RuleCause}
use Rattle.sheet.specs.Rule.{RuleView}
use Rattle.unroll.specs.Cycles.{cause_in, constraint_in, event_in, rule_exists}
use Rattle.longer_runs.specs.Folding.{FoldedIsDrawn, rule_folded, source_folded}
use Rattle.longer_runs.specs.Periods.{cause_folded, constraint_folded}

number_same : (marks mark : ℕ) → 0 * marks + mark ≡ mark
number_same marks mark = omega (arith, zero-mul marks)

all_there : (period : ℤ) (causes : List RuleCause) → list_all (λ (source : RuleCause). nat_le source.shift 0) (map (source_folded period) causes) ≡ true
all_there period [] = refl
all_there period (source ∷ causes) = all_there period causes

causes_drawn : (period : ℤ) (marks : ℕ) (causes : List RuleCause) → map (cause_in marks 0) (map (source_folded period) causes) ≡ map (cause_folded period) causes
causes_drawn period marks [] = refl
causes_drawn period marks (source ∷ causes) =
    let cause : ℕ → Cause = λ n. record (cause_folded period source) { event = record { 0 = n } } in
    ap (λ n. cause n ∷ map (cause_in marks 0) (map (source_folded period) causes)) (number_same marks source.mark)
    ∙ ap (λ rest. cause_folded period source ∷ rest) (causes_drawn period marks causes)

one_there : (b : Bool) (c d : Constraint) (cs ds : List Constraint) → b ≡ true → c ≡ d → cs ≡ ds → cons_option (cond b (Some c) None) cs ≡ d ∷ ds
one_there true c d cs ds there same rest = rw (same, rest) refl
one_there false c d cs ds there same rest = absurd (cc there)

pub rules_drawn : (each : List ℤ) (marks : ℕ) (rules : List RuleView) → filter_map (constraint_in marks 0) (map (rule_folded each) rules) ≡ map (constraint_folded each) rules
rules_drawn each marks [] = refl
rules_drawn each marks (rule ∷ rules) =
    let folded_rule : RuleView = rule_folded each rule in
    let c : Constraint = record { kind = rule.kind; target = event_in marks 0 rule.target; causes = map (cause_in marks 0) folded_rule.causes } in
    let same : c ≡ constraint_folded each rule =
    ap (λ n. record c { target = record { 0 = n } }) (number_same marks rule.target)
    ∙ ap (λ causes. record (constraint_folded each rule) { causes = causes }) (causes_drawn _ marks rule.causes) in
    one_there (rule_exists 0 folded_rule) c (constraint_folded each rule) (filter_map (constraint_in marks 0) (map (rule_folded each) rules)) (map (constraint_folded each) rules)
    (all_there _ rule.causes) same (rules_drawn each marks rules)

pub folded_is_drawn : FoldedIsDrawn
folded_is_drawn each marks rules = rules_drawn each marks rules
