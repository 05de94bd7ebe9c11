-- What a writer of a report promises: the lines that it put lead from a state to another.
use Rattle.std.specs.Prelude.{◌≡◌, List}
use Rattle.itv_base.specs.Outside.{CutShort, SinkState, grown}
use Rattle.slack_report.specs.Entry.{Entry}
use Rattle.slack_report.specs.Text.{report_text}
use Rattle.drawn_networks.specs.Drawn.{Drawn}
use Rattle.right_report.specs.Right.ReportState.{ReportState}
use Rattle.right_report.specs.Right.Following.{LineClaims, LinesLead}

-- whole lines were put, and they lead from a state to another
pub record WroteLines (claims : LineClaims) (drawn : Drawn) (here last : ReportState) (old new : SinkState) : Type 0 where
  pub lines : List Entry
  pub reads : LinesLead claims drawn here lines last
  pub grew : new ≡ grown old (report_text lines)

-- a put failed: of lines that lead from a state to another, a front was put
pub record WroteFront (claims : LineClaims) (drawn : Drawn) (here : ReportState) (old new : SinkState) : Type 0 where
  pub lines : List Entry
  pub last : ReportState
  pub reads : LinesLead claims drawn here lines last
  pub cut : CutShort old new (report_text lines)
