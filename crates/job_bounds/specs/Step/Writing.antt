-- What a step of the writer promises: its lines lead from one report state to another, have these verdicts, and do not end the report.
use Rattle.std.specs.Prelude.{◌≡◌, List, [], ◌∷◌, None, Result, Ok, Err}
use Rattle.itv_base.specs.Outside.{SinkState, grown}
use Rattle.requirements.specs.declared.verdict.Verdict.{Verdict}
use Rattle.slack_report.specs.declared.words.Which.{Which}
use Rattle.slack_report.specs.Entry.{Entry, verdict}
use Rattle.slack_report.specs.Text.{report_text}
use Rattle.right_report.specs.Right.ReportState.{ReportState, NextBound, CurrentRow, which_of}
use Rattle.drawn_networks.specs.Drawn.{Drawn}
use Rattle.right_report.specs.Right.Following.{LineClaims, LinesLead}
use Rattle.right_report.specs.ReportContents.{end_in}
use Rattle.right_report.specs.Writing.{WroteFront}
use Rattle.event_graph.specs.declared.pair.Pair.{Pair}

-- the verdicts of the lines
abbrev pub verdicts_in : List Entry → List Verdict
verdicts_in [] = []
verdicts_in (verdict word ∷ lines) = word ∷ verdicts_in lines
verdicts_in (line ∷ lines) = verdicts_in lines

-- whole lines were put; they lead from one report state to another, have these verdicts, and do not end the report
pub record WroteVerdicts (claims : LineClaims) (drawn : Drawn) (here last : ReportState) (words : List Verdict) (old new : SinkState) : Type 0 where
  pub lines : List Entry
  pub reads : LinesLead claims drawn here lines last
  pub grew : new ≡ grown old (report_text lines)
  pub words_are : verdicts_in lines ≡ words
  pub no_end : end_in lines ≡ None

-- a step that succeeds puts lines that lead to the report state `to` and have the verdicts `words`, both given by its answer; a step that fails puts
-- a front of some lines
abbrev pub WritesVerdicts : {B E : Type 0} → LineClaims → Drawn → ReportState → (B → ReportState) → (B → List Verdict) → SinkState → SinkState → Result B E → Type 0
WritesVerdicts claims drawn here to words old new (Ok x) = WroteVerdicts claims drawn here (to x) (words x) old new
WritesVerdicts claims drawn here to words old new (Err e) = WroteFront claims drawn here old new

-- the current row is of a pair, and its next bound is of this sort
pub record IsOf (current : CurrentRow) (coming : NextBound) (pair : Pair) (which : Which) : Type 0 where
  pub from : current.row.from ≡ pair.from
  pub to : current.row.to ≡ pair.to
  pub sort : which_of coming ≡ which
