-- Steady times: each mark comes again in each cycle, a period later. The marks that a rule joins have one period; two clocks may have two.
use Rattle.std.specs.Prelude.{◌≡◌, ℕ, zero, suc, ℤ, pos, ◌+ℤ◌, ◌-ℤ◌, List, [], ◌∷◌, All, length, map, slice_index_or, Option}
use Rattle.std.specs.Option.{option_map}
use Rattle.itv_base.specs.Range.{Ends}
use Rattle.itv_base.specs.declared.names.EventId.{EventId}
use Rattle.event_graph.specs.declared.cause.Cause.{Cause}
use Rattle.event_graph.specs.Network.{Constraint, Net}
use Rattle.event_graph.specs.Satisfying.{Satisfies}
use Rattle.sheet.specs.declared.rule.RuleCause.{RuleCause}
use Rattle.sheet.specs.Rule.{RuleView}
use Rattle.compose.specs.Design.{DesignView}
use Rattle.compose.specs.Numbers.{mark_count}
use Rattle.unroll.specs.Cycle.{rules_of}
use Rattle.unroll.specs.Cycles.{in_cycles}

-- so many periods
abbrev pub periods : ℤ → ℕ → ℤ
periods period zero = pos 0
periods period (suc n) = periods period n +ℤ period

-- the period of a mark, and 0 if there is no such mark
abbrev pub period_at : List ℤ → ℕ → ℤ
period_at each mark = slice_index_or each mark (pos 0)

-- a mark as an event of the one cycle of a period
abbrev pub mark_event : ℕ → EventId
mark_event mark = record { 0 = mark }

-- an end of a range, so many picoseconds lower
abbrev pub end_before : ℤ → Option ℤ → Option ℤ
end_before by end = option_map (λ value. value -ℤ by) end

-- the range of a cause of an earlier cycle, from the mark of the same cycle instead
abbrev pub range_folded : ℤ → RuleCause → Ends
range_folded period source = record { low = end_before (periods period source.shift) source.range.low; high = end_before (periods period source.shift) source.range.high }

-- a cause as one of the one cycle
abbrev pub cause_folded : ℤ → RuleCause → Cause
cause_folded period source = record { event = mark_event source.mark; range = range_folded period source }

-- a rule as a constraint of the one cycle; its causes come again with the period of its target
abbrev pub constraint_folded : List ℤ → RuleView → Constraint
constraint_folded each rule = record { kind = rule.kind; target = mark_event rule.target; causes = map (cause_folded (period_at each rule.target)) rule.causes }

-- One cycle with all rules of a design. A cause of an earlier cycle is the mark of this cycle, so many periods before.
abbrev pub folded_net : List ℤ → DesignView → Net
folded_net each d = record { events = mark_count d.sheets; constraints = map (constraint_folded each) (rules_of d) }

-- the causes of a rule have the period of its target
abbrev pub IsInStep : List ℤ → RuleView → Type 0
IsInStep each rule = All (λ (source : RuleCause). period_at each source.mark ≡ period_at each rule.target) rule.causes

-- Times of one cycle, and a period for each mark: the marks that a rule joins have one period, and the times satisfy the one cycle.
pub record IsPeriod (each : List ℤ) (times : List ℤ) (d : DesignView) : Type 0 where
  pub count : length each ≡ mark_count d.sheets
  pub in_step : All (IsInStep each) (rules_of d)
  pub satisfied : Satisfies times (folded_net each d)

-- the times of one cycle in another cycle, each so many of its periods later
abbrev pub risen : ℕ → List ℤ → List ℤ → List ℤ
risen cycle each [] = []
risen cycle [] (time ∷ times) = []
risen cycle (period ∷ each) (time ∷ times) = (time +ℤ periods period cycle) ∷ risen cycle each times

-- steady times over so many cycles
abbrev pub steady : List ℤ → List ℤ → ℕ → List ℤ
steady each times cycles = in_cycles (λ cycle. risen cycle each times) cycles
