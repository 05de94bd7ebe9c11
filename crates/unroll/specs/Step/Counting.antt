-- How much a design draws, by counting without drawing it.
use Rattle.std.specs.Prelude.{◌≡◌, ◌≤◌, ℕ, zero, suc, ◌+◌, Bool, nat_lt, if◌then◌else◌, List, length, sum_by}
use Rattle.event_graph.specs.Network.{named_causes}
use Rattle.sheet.specs.declared.row.SheetRow.{SheetRow}
use Rattle.sheet.specs.Rule.{RuleView}
use Rattle.unroll.specs.declared.counts.Counts.{Counts}
use Rattle.unroll.specs.Cycles.{row_exists, rule_exists}

-- in how many of the first cycles a test holds
abbrev pub how_often : (ℕ → Bool) → ℕ → ℕ
how_often test zero = 0
how_often test (suc n) = how_often test n + (if test n then 1 else 0)

-- in how many cycles a rule exists
abbrev pub rule_cycles : ℕ → RuleView → ℕ
rule_cycles cycles rule = how_often (λ cycle. rule_exists cycle rule) cycles

abbrev pub row_cycles : ℕ → SheetRow → ℕ
row_cycles cycles row = how_often (λ cycle. row_exists cycle row) cycles

-- the rule has two or more causes to choose from
abbrev pub is_splittable : RuleView → Bool
is_splittable rule = nat_lt 1 (named_causes rule.kind (length rule.causes))

-- in how many cycles a rule exists if it has two or more causes to choose from, else 0
abbrev pub splittable_cycles : ℕ → RuleView → ℕ
splittable_cycles cycles rule = if is_splittable rule then rule_cycles cycles rule else 0

-- no count exceeds a bound; the count of constraints has a bound of its own, as it has all joins
pub record AreWithin (bound constraints : ℕ) (counts : Counts) : Type 0 where
  pub marks : counts.marks ≤ bound
  pub rules : counts.constraints ≤ constraints
  pub splittable : counts.splittable ≤ bound
  pub rows : counts.rows ≤ bound

-- the counts of so many marks in a cycle, and of these rules and rows in so many cycles
pub record AreCounts (most cycles : ℕ) (rules : List RuleView) (asked : List SheetRow) (counts : Counts) : Type 0 where
  pub marks : counts.marks ≡ most
  pub constraints : counts.constraints ≡ sum_by (rule_cycles cycles) rules
  pub splittable : counts.splittable ≡ sum_by (splittable_cycles cycles) rules
  pub rows : counts.rows ≡ sum_by (row_cycles cycles) asked

-- the sums of two counts
abbrev pub sums : Counts → Counts → Counts
sums a b = record { marks = a.marks + b.marks; constraints = a.constraints + b.constraints; splittable = a.splittable + b.splittable; rows = a.rows + b.rows }
