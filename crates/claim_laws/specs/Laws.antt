-- The laws behind the claim of `itv FILE`.
use Rattle.std.specs.Prelude.{◌≡◌, ℕ, false, List, [], ◌∷◌, Some, slice_get, slice_index}
use Rattle.serde_json.specs.Data.{Data}
use Rattle.itv_base.specs.Outside.{Files, ShelfState}
use Rattle.itv_base.specs.Range.{Ends}
use Rattle.itv_base.specs.declared.limits.TheConstants.{DEFAULT_BUDGET}
use Rattle.itv_base.specs.declared.row_kind.RowKind.TheVariants as kinds
use Rattle.requirements.specs.declared.bound.Bound.{Bound}
use Rattle.requirements.specs.declared.verdict.Verdict.{Verdict}
use Rattle.slack_report.specs.declared.words.EndWord.TheVariants as endings
use Rattle.slack_report.specs.declared.words.Which.TheVariants as sorts
use Rattle.slack_report.specs.Entry.{Entry}
use Rattle.slack_report.specs.Text.{report_text}
use Rattle.drawn_networks.specs.Drawn.{Drawn}
use Rattle.drawn_networks.specs.declared.row.Row.{Row}
use Rattle.right_report.specs.Right.LineClaims.{IsRightReport}
use Rattle.right_report.specs.ReportContents.{bound_on, end_in, verdict_on}
use Rattle.design_reading.specs.FileReading.{RunsTo, ready}
use Rattle.design_reading.specs.Design.{design_at}
use Rattle.command_words.specs.declared.job.SearchJob.TheVariants.{Bounds}
use Rattle.command_words.specs.Task.{searched, taken, task}
use Rattle.claim_laws.specs.Lone.{DrawsLone, IsLoneFile}
use Rattle.claim_laws.specs.Said.{IsSoText}

-- ---- words

-- one word that does not begin with `-` asks for the bounds of the design of a file with this name
abbrev pub PlainWord : Type 0
PlainWord = (word : List ℕ) → (slice_index word 0 ≡ 45 → ⊥) → taken (word ∷ []) ≡ task (searched word (Bounds false) DEFAULT_BUDGET)

-- ---- a lone sheet

-- if the design of a lone sheet is read, the network is the one that the tree of the file draws
abbrev pub LoneIsRead : Type 0
LoneIsRead = (shelf : ShelfState) (files : Files) (name : List ℕ) (tree : Data) (drawn : Drawn) → shelf.files ≡ Some files → IsLoneFile files name tree
    → RunsTo shelf (design_at name) (ready drawn) → DrawsLone tree drawn

-- ---- the lines of rows

-- if a right report does not end with `end inconsistent`, each row has a greatest bound
abbrev pub RowHasGreatest : Type 0
RowHasGreatest = (drawn : Drawn) (lines : List Entry) (number : ℕ) (r : Row) → IsRightReport drawn lines → slice_get drawn.rows number ≡ Some r
    → (end_in lines ≡ Some endings.Inconsistent → ⊥) → (value : Bound) × (bound_on lines number sorts.Max ≡ Some value)

-- each row has a least bound
abbrev pub RowHasLeast : Type 0
RowHasLeast = (drawn : Drawn) (lines : List Entry) (number : ℕ) (r : Row) → IsRightReport drawn lines → slice_get drawn.rows number ≡ Some r
    → (end_in lines ≡ Some endings.Inconsistent → ⊥) → (value : Bound) × (bound_on lines number sorts.Min ≡ Some value)

-- each row with a requirement has a verdict
abbrev pub RequirementHasVerdict : Type 0
RequirementHasVerdict = (drawn : Drawn) (lines : List Entry) (number : ℕ) (r : Row) (range : Ends) → IsRightReport drawn lines → slice_get drawn.rows number ≡ Some r
    → r.kind ≡ kinds.Req range → (end_in lines ≡ Some endings.Inconsistent → ⊥) → (word : Verdict) × (verdict_on lines number ≡ Some word)

-- what the text of such a report says is so
abbrev pub RightTextIsSo : Type 0
RightTextIsSo = (drawn : Drawn) (lines : List Entry) → IsRightReport drawn lines → (end_in lines ≡ Some endings.Inconsistent → ⊥) → IsSoText drawn (report_text lines)
