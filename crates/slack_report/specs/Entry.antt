-- The lines of a report as values, without their places in memory, and which numbers and names they may have.
use Rattle.std.specs.Prelude.{◌≡◌, ◌<◌, ◌≤◌, ℕ, ℤ, List, length, Bool, IsTrue, All}
use Rattle.itv_base.specs.Characters.{is_mark, is_name}
use Rattle.itv_base.specs.Names.{Name}
use Rattle.itv_base.specs.Range.{IsRange}
use Rattle.itv_base.specs.declared.limits.TheConstants.{MAX_BUDGET, MAX_CYCLES, MAX_EVENTS, MAX_ROWS}
use Rattle.event_graph.specs.Proof.{ProofLine}
use Rattle.certificate.specs.Text.{IsProofLine}
use Rattle.line_words.specs.Numbers.{IsLong, IsLongOrOpen}
use Rattle.requirements.specs.declared.bound.Bound.{Bound}
use Rattle.requirements.specs.declared.bound.Bound.TheVariants as bounds
use Rattle.requirements.specs.declared.bound.Slack.{Slack}
use Rattle.requirements.specs.declared.verdict.Verdict.{Verdict}
use Rattle.itv_base.specs.declared.row_kind.RowKind.{RowKind}
use Rattle.itv_base.specs.declared.row_kind.RowKind.TheVariants as kinds
use Rattle.slack_report.specs.declared.words.EndWord.{EndWord}
use Rattle.requirements.specs.declared.consistency.Consistency.{Consistency}
use Rattle.slack_report.specs.declared.words.Which.{Which}

-- a line of a report
pub data Entry : Type 0 where
  heading : Entry
  budget : ℕ → Entry
  events : ℕ → Entry
  event : ℕ → Name → Entry
  proof : ProofLine → Entry
  finding : Consistency → Entry
  times : List ℤ → Entry
  rows : ℕ → Entry
  row : ℕ → RowKind → Name → Name → Entry
  bound : Which → Bound → Entry
  raise : List Bool → Entry
  verdict : Verdict → Entry
  slack : Slack → Entry
  ending : EndWord → Entry

-- ---- which numbers and names a line may have

-- a name has its form: a part of letters, digits and `_`, a mark, and a cycle below the limit
pub record IsName (name : Name) : Type 0 where
  pub part : IsTrue (is_name name.part)
  pub mark : IsTrue (is_mark name.mark)
  pub cycle : name.cycle < MAX_CYCLES

abbrev pub IsKind : RowKind → Type 0
IsKind kinds.Ask = Unit {0}
IsKind (kinds.Req ends) = IsRange ends

abbrev pub HasBoundForm : Bound → Type 0
HasBoundForm (bounds.Closed value) = IsLong value
HasBoundForm bounds.Unbounded = Unit {0}
HasBoundForm (bounds.Within limit attained) = IsLongOrOpen limit × IsLongOrOpen attained

-- the line may be in a report with this number of events, where the order of lines allows it
abbrev pub IsReportEntry : ℕ → Entry → Type 0
IsReportEntry count heading = Unit {0}
IsReportEntry count (budget most) = (1 ≤ most) × (most ≤ MAX_BUDGET)
IsReportEntry count (events number) = number ≤ MAX_EVENTS
IsReportEntry count (event number name) = IsName name
IsReportEntry count (proof line) = IsProofLine line
IsReportEntry count (finding word) = Unit {0}
IsReportEntry count (times list) = (length list ≡ count) × All IsLong list
IsReportEntry count (rows number) = number ≤ MAX_ROWS
IsReportEntry count (row number kind from to) = IsKind kind × IsName from × IsName to
IsReportEntry count (bound which value) = HasBoundForm value
IsReportEntry count (raise set) = length set ≡ count
IsReportEntry count (verdict word) = Unit {0}
IsReportEntry count (slack value) = IsLongOrOpen value.low × IsLongOrOpen value.high
IsReportEntry count (ending word) = Unit {0}
