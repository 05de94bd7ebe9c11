-- Cycles one after the other: the events of marks, the constraints of rules, and the rows. Each is in the cycles in which it exists.
use Rattle.std.specs.Prelude.{ℕ, zero, suc, ◌+◌, ◌-◌, ◌*◌, Bool, nat_le, if◌then◌else◌, List, [], ◌++◌, map, Option, Some, None}
use Rattle.std.specs.List.{filter_map, list_all}
use Rattle.itv_base.specs.declared.names.EventId.{EventId}
use Rattle.origin.specs.declared.origin.Origin.{Origin}
use Rattle.event_graph.specs.declared.cause.Cause.{Cause}
use Rattle.event_graph.specs.Network.{Constraint}
use Rattle.sheet.specs.declared.row.SheetRow.{SheetRow}
use Rattle.sheet.specs.declared.rule.RuleCause.{RuleCause}
use Rattle.sheet.specs.Rule.{RuleView}
use Rattle.drawn_networks.specs.declared.row.Row.{Row}

-- the lists of the first cycles, one after the other
abbrev pub in_cycles : {X : Type 0} → (ℕ → List X) → ℕ → List X
in_cycles each zero = []
in_cycles each (suc n) = in_cycles each n ++ each n

-- the event of a mark in a cycle, if each cycle has this many marks
abbrev pub event_in : ℕ → ℕ → ℕ → EventId
event_in marks cycle mark = record { 0 = cycle * marks + mark }

-- a cause in the cycle that comes as many cycles before as its shift says
abbrev pub cause_in : ℕ → ℕ → RuleCause → Cause
cause_in marks cycle source = record { event = event_in marks (cycle - source.shift) source.mark; range = source.range }

-- every cause is in some cycle
abbrev pub rule_exists : ℕ → RuleView → Bool
rule_exists cycle rule = list_all (λ source. nat_le source.shift cycle) rule.causes

-- the constraint of a rule in the cycle of its target, if every cause is in some cycle
abbrev pub constraint_in : ℕ → ℕ → RuleView → Option Constraint
constraint_in marks cycle rule =
    if rule_exists cycle rule then Some (record { kind = rule.kind; target = event_in marks cycle rule.target; causes = map (cause_in marks cycle) rule.causes }) else None

-- what draws the causes of the constraint of a rule in a cycle, if the constraint exists there
abbrev pub origins_in : ℕ → RuleView → Option (List Origin)
origins_in cycle rule = if rule_exists cycle rule then Some (map (λ source. source.origin) rule.causes) else None

abbrev pub row_exists : ℕ → SheetRow → Bool
row_exists cycle row = nat_le row.shift cycle

-- a row in the cycle of its to-event, if its from-event is in some cycle
abbrev pub row_in : ℕ → ℕ → SheetRow → Option Row
row_in marks cycle row =
    if row_exists cycle row then Some (record { kind = row.kind; from = event_in marks (cycle - row.shift) row.from; to = event_in marks cycle row.to; origin = row.origin }) else None

-- the constraints of rules in the first cycles
abbrev pub constraints_of : ℕ → List RuleView → ℕ → List Constraint
constraints_of marks rules cycles = in_cycles (λ cycle. filter_map (constraint_in marks cycle) rules) cycles

-- what draws the causes of these constraints
abbrev pub origins_of : List RuleView → ℕ → List (List Origin)
origins_of rules cycles = in_cycles (λ cycle. filter_map (origins_in cycle) rules) cycles

abbrev pub rows_in : ℕ → List SheetRow → ℕ → List Row
rows_in marks rows cycles = in_cycles (λ cycle. filter_map (row_in marks cycle) rows) cycles
