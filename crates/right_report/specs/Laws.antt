-- Laws of right reports, over the definitions alone.
use Rattle.std.specs.Prelude.{◌≡◌, ◌<◌, ◌⊎◌, ℕ, ℤ, Bool, List, All, Some, length, slice_get}
use Rattle.itv_base.specs.Range.{Ends}
use Rattle.event_graph.specs.Bounds.{IsInconsistent, IsUnbounded}
use Rattle.event_graph.specs.Edges.{cause_choices}
use Rattle.event_graph.specs.Network.{IsNet, Net}
use Rattle.event_graph.specs.Satisfying.{Satisfies}
use Rattle.requirements.specs.Bounds.{IsGreatestBound, IsLeastBound}
use Rattle.requirements.specs.Laws.{IsBrokenHigh, IsBrokenLow, IsMet}
use Rattle.requirements.specs.declared.bound.Bound.{Bound}
use Rattle.requirements.specs.declared.bound.Bound.TheVariants as bounds
use Rattle.requirements.specs.declared.verdict.Verdict.TheVariants as verdicts
use Rattle.itv_base.specs.declared.row_kind.RowKind.TheVariants as kinds
use Rattle.slack_report.specs.declared.words.EndWord.TheVariants as endings
use Rattle.requirements.specs.declared.consistency.Consistency.TheVariants as findings
use Rattle.slack_report.specs.declared.words.Which.TheVariants as sorts
use Rattle.slack_report.specs.Entry.{Entry, IsReportEntry}
use Rattle.slack_report.specs.Order.{IsReport}
use Rattle.slack_report.specs.Report.{IsReportText}
use Rattle.slack_report.specs.Text.{report_text}
use Rattle.drawn_networks.specs.Drawn.{Drawn}
use Rattle.drawn_networks.specs.declared.row.Row.{Row}
use Rattle.right_report.specs.Right.LineClaims.{BeginsRightReport, IsRightReport}
use Rattle.right_report.specs.Checked.{IsChecked}
use Rattle.right_report.specs.Shown.{IsBareReport, IsShownReport}
use Rattle.right_report.specs.Texts.{IsAcceptedText, IsRefusedText, IsRightText}
use Rattle.right_report.specs.ReportContents.{bound_on, end_in, finding_in, set_on, verdict_on}
use Rattle.right_report.specs.Wrong.{IsFirstWrongIn}

-- ---- ways to be right

-- a report that shows its numbers is right
abbrev pub ShownIsRight : Type 0
ShownIsRight = (drawn : Drawn) (most : ℕ) (lines : List Entry) → IsShownReport drawn most lines → IsRightReport drawn lines

-- a report without the lines that show its numbers is right, if there are such lines
abbrev pub BareIsRight : Type 0
BareIsRight = (drawn : Drawn) (most : ℕ) (lines : List Entry) → IsBareReport drawn most lines → IsRightReport drawn lines

-- a report in which each line meets the check is right, whoever wrote it
abbrev pub CheckedIsRight : Type 0
CheckedIsRight = (drawn : Drawn) (lines : List Entry) → IsChecked drawn lines → IsRightReport drawn lines

-- ---- the first wrong line

-- a report has at most one first wrong line
abbrev pub OneFirstWrong : Type 0
OneFirstWrong = (drawn : Drawn) (lines : List Entry) (m n : ℕ) → IsFirstWrongIn drawn lines m → IsFirstWrongIn drawn lines n → m ≡ n

-- a report in which each line meets the check has no wrong line
abbrev pub CheckedHasNoWrong : Type 0
CheckedHasNoWrong = (drawn : Drawn) (lines : List Entry) (number : ℕ) → IsChecked drawn lines → IsFirstWrongIn drawn lines number → ⊥

-- ---- what a right report says

-- an inconsistent finding says that no times satisfy
abbrev pub InconsistentIsSo : Type 0
InconsistentIsSo = (drawn : Drawn) (lines : List Entry) → BeginsRightReport drawn lines → finding_in lines ≡ Some findings.Inconsistent → IsInconsistent drawn.net

-- some times satisfy a network
abbrev pub SomeSatisfy : Net → Type 0
SomeSatisfy net = (list : List ℤ) × Satisfies list net

-- a consistent finding says that some times satisfy
abbrev pub ConsistentIsSo : Type 0
ConsistentIsSo = (drawn : Drawn) (lines : List Entry) → IsRightReport drawn lines → finding_in lines ≡ Some findings.Consistent → SomeSatisfy drawn.net

-- a greatest bound is right for the pair of its row
abbrev pub GreatestIsRight : Type 0
GreatestIsRight = (drawn : Drawn) (lines : List Entry) (number : ℕ) (r : Row) (value : Bound) → IsRightReport drawn lines → slice_get drawn.rows number ≡ Some r
    → bound_on lines number sorts.Max ≡ Some value → IsGreatestBound drawn.net r.from r.to value

-- a least bound is right for the pair of its row
abbrev pub LeastIsRight : Type 0
LeastIsRight = (drawn : Drawn) (lines : List Entry) (number : ℕ) (r : Row) (value : Bound) → IsRightReport drawn lines → slice_get drawn.rows number ≡ Some r
    → bound_on lines number sorts.Min ≡ Some value → IsLeastBound drawn.net r.from r.to value

-- an unbounded greatest bound says that satisfying separations of the pair exceed every number
abbrev pub UnboundedAbove : Type 0
UnboundedAbove = (drawn : Drawn) (lines : List Entry) (number : ℕ) (r : Row) → IsRightReport drawn lines → slice_get drawn.rows number ≡ Some r
    → bound_on lines number sorts.Max ≡ Some bounds.Unbounded → IsUnbounded drawn.net r.from r.to

-- an unbounded least bound says that satisfying separations of the reversed pair exceed every number
abbrev pub UnboundedBelow : Type 0
UnboundedBelow = (drawn : Drawn) (lines : List Entry) (number : ℕ) (r : Row) → IsRightReport drawn lines → slice_get drawn.rows number ≡ Some r
    → bound_on lines number sorts.Min ≡ Some bounds.Unbounded → IsUnbounded drawn.net r.to r.from

-- a set of events after a greatest bound shows that satisfying separations of the pair exceed every number, even if the lines only begin a
-- right report
abbrev pub SetShowsAbove : Type 0
SetShowsAbove = (drawn : Drawn) (lines : List Entry) (number : ℕ) (r : Row) (set : List Bool) → BeginsRightReport drawn lines → slice_get drawn.rows number ≡ Some r
    → set_on lines number sorts.Max ≡ Some set → IsUnbounded drawn.net r.from r.to

-- a set of events after a least bound shows the same of the reversed pair
abbrev pub SetShowsBelow : Type 0
SetShowsBelow = (drawn : Drawn) (lines : List Entry) (number : ℕ) (r : Row) (set : List Bool) → BeginsRightReport drawn lines → slice_get drawn.rows number ≡ Some r
    → set_on lines number sorts.Min ≡ Some set → IsUnbounded drawn.net r.to r.from

-- a verdict `pass` says that all satisfying times meet the requirement of the row
abbrev pub ReportPassIsMet : Type 0
ReportPassIsMet = (drawn : Drawn) (lines : List Entry) (number : ℕ) (r : Row) → BeginsRightReport drawn lines → slice_get drawn.rows number ≡ Some r
    → verdict_on lines number ≡ Some verdicts.Pass → (range : Ends) × (r.kind ≡ kinds.Req range) × IsMet drawn.net r.from r.to range

-- a verdict `fail high` says that some satisfying times are past the high end of the requirement
abbrev pub ReportFailHighIsBroken : Type 0
ReportFailHighIsBroken = (drawn : Drawn) (lines : List Entry) (number : ℕ) (r : Row) → BeginsRightReport drawn lines → slice_get drawn.rows number ≡ Some r
    → verdict_on lines number ≡ Some verdicts.FailHigh → (range : Ends) × (r.kind ≡ kinds.Req range) × IsBrokenHigh drawn.net r.from r.to range

-- a verdict `fail low` says that some satisfying times are past the low end of the requirement
abbrev pub ReportFailLowIsBroken : Type 0
ReportFailLowIsBroken = (drawn : Drawn) (lines : List Entry) (number : ℕ) (r : Row) → BeginsRightReport drawn lines → slice_get drawn.rows number ≡ Some r
    → verdict_on lines number ≡ Some verdicts.FailLow → (range : Ends) × (r.kind ≡ kinds.Req range) × IsBrokenLow drawn.net r.from r.to range

-- ---- what its end says

-- every requirement of the rows is met
abbrev pub AllMet : Drawn → Type 0
AllMet drawn = (number : ℕ) (r : Row) (range : Ends) → slice_get drawn.rows number ≡ Some r → r.kind ≡ kinds.Req range → IsMet drawn.net r.from r.to range

-- the requirement of some row is broken
pub record SomeBroken (drawn : Drawn) : Type 0 where
  pub number : ℕ
  pub asked : Row
  pub range : Ends
  pub is_row : slice_get drawn.rows number ≡ Some asked
  pub is_kind : asked.kind ≡ kinds.Req range
  pub is_broken : IsBrokenHigh drawn.net asked.from asked.to range ⊎ IsBrokenLow drawn.net asked.from asked.to range

-- `end pass` says that some times satisfy, and that every requirement is met
abbrev pub PassEndIsSo : Type 0
PassEndIsSo = (drawn : Drawn) (lines : List Entry) → BeginsRightReport drawn lines → end_in lines ≡ Some endings.Pass → SomeSatisfy drawn.net × AllMet drawn

-- `end fail` says that some requirement is broken
abbrev pub FailEndIsSo : Type 0
FailEndIsSo = (drawn : Drawn) (lines : List Entry) → BeginsRightReport drawn lines → end_in lines ≡ Some endings.Fail → SomeBroken drawn

-- `end inconsistent` says that no times satisfy
abbrev pub InconsistentEndIsSo : Type 0
InconsistentEndIsSo = (drawn : Drawn) (lines : List Entry) → BeginsRightReport drawn lines → end_in lines ≡ Some endings.Inconsistent → IsInconsistent drawn.net

-- a report that shows its numbers ends with `end undecided` only if its budget is below the number of cause choices
abbrev pub ShownUndecidedIsBelow : Type 0
ShownUndecidedIsBelow = (drawn : Drawn) (most : ℕ) (lines : List Entry) → IsNet drawn.net → IsShownReport drawn most lines → end_in lines ≡ Some endings.Undecided
    → most < cause_choices drawn.net.constraints

-- the same holds of a report without the lines that show its numbers, if there are such lines
abbrev pub BareUndecidedIsBelow : Type 0
BareUndecidedIsBelow = (drawn : Drawn) (most : ℕ) (lines : List Entry) → IsNet drawn.net → IsBareReport drawn most lines → end_in lines ≡ Some endings.Undecided
    → most < cause_choices drawn.net.constraints

-- ---- texts

-- if the lines of a right report have texts, it is a report, and its text is the text of a report
abbrev pub RightIsReport : Type 0
RightIsReport = (drawn : Drawn) (lines : List Entry) → IsRightReport drawn lines → All (IsReportEntry (length drawn.names)) lines → IsReport lines × IsReportText (report_text lines)

-- a text that the check accepts is the text of a right report, whoever wrote it
abbrev pub AcceptedTextIsRight : Type 0
AcceptedTextIsRight = (drawn : Drawn) (bytes : List ℕ) → IsAcceptedText drawn bytes → IsRightText drawn bytes

-- the check refuses a text at one line at most
abbrev pub OneRefusedLine : Type 0
OneRefusedLine = (drawn : Drawn) (bytes : List ℕ) (line other : ℕ) → IsRefusedText drawn bytes line → IsRefusedText drawn bytes other → line ≡ other

-- the check does not both accept and refuse a text
abbrev pub AcceptedTextIsNotRefused : Type 0
AcceptedTextIsNotRefused = (drawn : Drawn) (bytes : List ℕ) (line : ℕ) → IsAcceptedText drawn bytes → IsRefusedText drawn bytes line → ⊥

-- If the check refuses a text at no line, the text can't fail to be the text of a right report. (To have the report itself, root bounds would
-- have to be decided here.)
abbrev pub UnrefusedTextIsRight : Type 0
UnrefusedTextIsRight = (drawn : Drawn) (bytes : List ℕ) → ((line : ℕ) → ¬ (IsRefusedText drawn bytes line)) → ¬ (¬ (IsRightText drawn bytes))
