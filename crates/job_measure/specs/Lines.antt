-- The lines of rules and rows.
use Rattle.std.specs.Prelude.{◌+◌, ℕ, Bool, true, false, if◌then◌else◌, List, [], ◌∷◌, ◌++◌, map, filter, None}
use Rattle.std.specs.List.{list_any}
use Rattle.itv_base.specs.Range.{Ends}
use Rattle.itv_base.specs.declared.names.RuleKind.{RuleKind}
use Rattle.itv_base.specs.declared.names.RuleKind.TheVariants.{Lin, Late, Early}
use Rattle.itv_base.specs.declared.row_kind.RowKind.{RowKind}
use Rattle.itv_base.specs.declared.row_kind.RowKind.TheVariants as kinds
use Rattle.origin.specs.declared.origin.Origin.{Origin}
use Rattle.event_graph.specs.Network.{Constraint, linear}
use Rattle.drawn_networks.specs.Drawn.{Drawn}
use Rattle.drawn_networks.specs.declared.row.Row.{Row}
use Rattle.line_words.specs.Words.{is_word}
use Rattle.measured_times.specs.Runs.{MeasuredRun}
use Rattle.job_measure.specs.declared.tally.RunTally.{RunTally}
use Rattle.job_measure.specs.Headings.{row_heading, rule_heading}
use Rattle.job_measure.specs.Tally.{tally}

-- a constraint and the heading of the rule that draws it
pub record Headed : Type 0 where
  pub heading : List ℕ
  pub constraint : Constraint

-- a line: what it is about, whether separations are printed, whether it is judged, and what the runs show
pub record RunLine : Type 0 where
  pub heading : List ℕ
  pub has_separations : Bool
  pub is_judged : Bool
  pub tally : RunTally

abbrev pub is_linear_kind : RuleKind → Bool
is_linear_kind Lin = true
is_linear_kind Late = false
is_linear_kind Early = false

-- ---- rules

-- the constraints with their headings, given the origins of their causes
abbrev pub headed : Drawn → List Constraint → List (List Origin) → List Headed
headed drawn [] origins = []
headed drawn (c ∷ constraints) [] = []
headed drawn (c ∷ constraints) (drew ∷ origins) = record { heading = rule_heading drawn c drew; constraint = c } ∷ headed drawn constraints origins

-- the constraints with this heading
abbrev pub under : List ℕ → List Headed → List Constraint
under heading all = map (λ (h : Headed). h.constraint) (filter (λ (h : Headed). is_word h.heading heading) all)

abbrev pub rule_line : ℕ → List MeasuredRun → List Headed → Headed → RunLine
rule_line within runs all h =
    record { heading = h.heading; has_separations = is_linear_kind h.constraint.kind; is_judged = true; tally = tally within (under h.heading all) runs }

-- a line for each heading, where its first constraint is; the constraints `before` come before the others
abbrev pub rule_lines : ℕ → List MeasuredRun → List Headed → List Headed → List Headed → List RunLine
rule_lines within runs all before [] = []
rule_lines within runs all before (h ∷ others) =
    (if list_any (λ (b : Headed). is_word b.heading h.heading) before then [] else rule_line within runs all h ∷ []) ++ rule_lines within runs all (before ++ h ∷ []) others

-- ---- rows

abbrev pub is_demand : RowKind → Bool
is_demand kinds.Ask = false
is_demand (kinds.Req range) = true

-- the range of a row; a question has a range with open ends
abbrev pub range_of : RowKind → Ends
range_of kinds.Ask = record { low = None; high = None }
range_of (kinds.Req range) = range

abbrev pub line_of_row : Drawn → ℕ → List MeasuredRun → ℕ → Row → RunLine
line_of_row drawn within runs number row = record {
  heading = row_heading drawn number row;
  has_separations = true;
  is_judged = is_demand row.kind;
  tally = tally within (linear row.from row.to (range_of row.kind) ∷ []) runs;
}

abbrev pub lines_of_rows : Drawn → ℕ → List MeasuredRun → ℕ → List Row → List RunLine
lines_of_rows drawn within runs number [] = []
lines_of_rows drawn within runs number (row ∷ rows) = line_of_row drawn within runs number row ∷ lines_of_rows drawn within runs (number + 1) rows

-- ---- all

abbrev pub lines_of : Drawn → ℕ → List MeasuredRun → List RunLine
lines_of drawn within runs =
    rule_lines within runs (headed drawn drawn.net.constraints drawn.origins) [] (headed drawn drawn.net.constraints drawn.origins) ++ lines_of_rows drawn within runs 0 drawn.rows
