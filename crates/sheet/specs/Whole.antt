-- What holds of every sheet.
use Rattle.std.specs.Prelude.{◌≡◌, ◌+◌, ◌<◌, ◌≤◌, ℕ, length, All, IfSome}
use Rattle.itv_base.specs.declared.limits.TheConstants.{MAX_CAUSES}
use Rattle.itv_base.specs.declared.names.RuleKind.{RuleKind}
use Rattle.itv_base.specs.declared.names.RuleKind.TheVariants as rules
use Rattle.itv_base.specs.Range.{IsRange}
use Rattle.sheet.specs.declared.mark.TheConstants.{MAX_MARKS}
use Rattle.sheet.specs.declared.pin.Pin.{Pin}
use Rattle.itv_base.specs.declared.row_kind.RowKind.{RowKind}
use Rattle.itv_base.specs.declared.row_kind.RowKind.TheVariants.{Ask, Req}
use Rattle.sheet.specs.declared.row.SheetRow.{SheetRow}
use Rattle.itv_base.specs.declared.limits.TheConstants.{MAX_SHIFT}
use Rattle.sheet.specs.declared.rule.RuleCause.{RuleCause}
use Rattle.grades.specs.Grades.{HasRanges}
use Rattle.sheet.specs.Links.{Labels, plain, graded}
use Rattle.sheet.specs.Rule.{RuleView}
use Rattle.sheet.specs.SheetContents.{SheetView}

-- how many causes a rule of a kind may have: a linear rule has one, its from-mark; the others have 1 to `MAX_CAUSES`
abbrev pub IsCauseCount : RuleKind → ℕ → Type 0
IsCauseCount rules.Lin count = count ≡ 1
IsCauseCount rules.Late count = (1 ≤ count) × (count ≤ MAX_CAUSES)
IsCauseCount rules.Early count = (1 ≤ count) × (count ≤ MAX_CAUSES)

-- a cause at a mark below a number, not too many cycles back, with two ends that are a range
pub record IsWholeSource (marks : ℕ) (source : RuleCause) : Type 0 where
  pub mark : source.mark < marks
  pub shift : source.shift ≤ MAX_SHIFT
  pub range : IsRange source.range

-- a rule between marks below a number, with as many causes as its kind may have
pub record IsWholeRule (marks : ℕ) (rule : RuleView) : Type 0 where
  pub target : rule.target < marks
  pub causes : All (IsWholeSource marks) rule.causes
  pub count : IsCauseCount rule.kind (length rule.causes)

-- what a row demands is a range
abbrev pub IsWholeKind : RowKind → Type 0
IsWholeKind Ask = Unit {0}
IsWholeKind (Req range) = IsRange range

-- a row between marks below a number
pub record IsWholeRow (marks : ℕ) (row : SheetRow) : Type 0 where
  pub from : row.from < marks
  pub to : row.to < marks
  pub shift : row.shift ≤ MAX_SHIFT
  pub kind : IsWholeKind row.kind

-- there are few marks; the marks of each pin are among them; rules and rows are between them
pub record IsWhole (sheet : SheetView) : Type 0 where
  pub marks : length sheet.marks ≤ MAX_MARKS
  pub pins : All (λ (pin : Pin). (1 ≤ pin.count) × (pin.first + pin.count ≤ length sheet.marks)) sheet.pins
  pub rules : All (IsWholeRule (length sheet.marks)) sheet.rules
  pub rows : All (IsWholeRow (length sheet.marks)) sheet.rows
