-- Each constraint has an origin for each of its causes.
use Rattle.std.proofs.Common.{◌≡◌, ℕ, zero, suc, Bool, true, false, cond, List, [], ◌∷◌, length, map, Some, None, refl, sym, ◌∙◌}
use Rattle.std.specs.List.{cons_option, filter_map}
use Rattle.std.proofs.lemmas.List.{length-map, map-append}
use Rattle.origin.specs.declared.origin.Origin.{Origin}
use Rattle.event_graph.specs.Network.{Constraint}
use Rattle.sheet.specs.declared.rule.RuleCause.{RuleCause}
use Rattle.sheet.specs.Rule.{RuleView}
use Rattle.drawn_networks.specs.Drawn.{OriginsFit}
use Rattle.unroll.specs.Cycles.{cause_in, constraint_in, constraints_of, event_in, origins_in, origins_of, rule_exists}

-- how many causes a constraint has
abbrev cause_count : Constraint → ℕ
cause_count c = length c.causes

one_fits : (exists : Bool) (given : List Origin) (c : Constraint) (more : List (List Origin)) (rest : List Constraint) → length given ≡ cause_count c → map length more ≡ map cause_count rest
    → map length (cons_option (cond exists (Some given) None) more) ≡ map cause_count (cons_option (cond exists (Some c) None) rest)
one_fits true given c more rest one all = rw (one, all) refl
one_fits false given c more rest one all = all

cycle_fits : (marks cycle : ℕ) (rules : List RuleView) → map length (filter_map (origins_in cycle) rules) ≡ map cause_count (filter_map (constraint_in marks cycle) rules)
cycle_fits marks cycle [] = refl
cycle_fits marks cycle (rule ∷ rules) =
    one_fits (rule_exists cycle rule) (map (λ (source : RuleCause). source.origin) rule.causes)
    (record { kind = rule.kind; target = event_in marks cycle rule.target; causes = map (cause_in marks cycle) rule.causes })
    (filter_map (origins_in cycle) rules) (filter_map (constraint_in marks cycle) rules)
    (length-map rule.causes (λ (source : RuleCause). source.origin) ∙ sym (length-map rule.causes (cause_in marks cycle))) (cycle_fits marks cycle rules)

pub origins_fit : (events marks n : ℕ) (rules : List RuleView) → OriginsFit (record { events = events; constraints = constraints_of marks rules n }) (origins_of rules n)
origins_fit events marks zero rules = refl
origins_fit events marks (suc n) rules =
    let before : map length (origins_of rules n) ≡ map cause_count (constraints_of marks rules n) = origins_fit events marks n rules in
    rw (map-append length (origins_of rules n) (filter_map (origins_in n) rules), map-append cause_count (constraints_of marks rules n) (filter_map (constraint_in marks n) rules), before, cycle_fits marks n rules) refl
