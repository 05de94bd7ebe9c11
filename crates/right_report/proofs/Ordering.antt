-- Right reports are reports, and their texts are texts of reports.
use Rattle.std.proofs.Common.{◌≡◌, ℕ, List, [], ◌∷◌, All, length, refl, sym, subst, ap}
use Rattle.std.proofs.lemmas.List.Elements.{All-head, All-tail}
use Rattle.slack_report.specs.Entry.{Entry, IsReportEntry}
use Rattle.slack_report.specs.Order.{IsReport, OrderLeads, events_at}
use Rattle.drawn_networks.specs.Drawn.{Drawn}
use Rattle.right_report.specs.Right.ReportState.{ReportState, at_heading, at_budget, at_events, at_event, at_finding, at_known, at_rows, at_row, at_bound, at_times, at_raise, at_verdict, at_past, at_slack, at_end, at_last, end_word}
use Rattle.right_report.specs.Right.LineClaims.{right}
use Rattle.right_report.specs.Right.Following.{LineClaims, MayFollow, LinesLead}
use Rattle.right_report.specs.Right.Order.{place_of}
use Rattle.slack_report.specs.Entry.{budget, ending, events, heading}
use Rattle.right_report.proofs.RightOrder.{right_lines_keep_order}
use Rattle.right_report.specs.Laws.{RightIsReport}

module _ (claims : LineClaims) (drawn : Drawn) (line : Entry) (next : ReportState) where
  -- if a line may be in a report of so many events, it may stand where the order asks for another number of events
  other_count : (count : ℕ) (known : Entry) → line ≡ known → (IsReportEntry (length drawn.names) known → IsReportEntry count known) → IsReportEntry (length drawn.names) line → IsReportEntry count line
  other_count count known same free e = subst (IsReportEntry count) (sym same) (free (subst (IsReportEntry (length drawn.names)) same e))

  entry_there : (here : ReportState) → MayFollow claims drawn here line next → IsReportEntry (length drawn.names) line → IsReportEntry (events_at (place_of drawn here)) line
  entry_there at_heading h e = other_count 0 heading h.0 (λ x. x) e
  entry_there at_budget h e = other_count 0 (budget h.0) h.1 (λ x. x) e
  entry_there at_events h e = other_count 0 (events (length drawn.names)) h.0 (λ x. x) e
  entry_there (at_event number (name ∷ names)) h e = e
  entry_there (at_event number []) h e = e
  entry_there (at_finding lines) h e = e
  entry_there at_known h e = e
  entry_there (at_rows word) h e = e
  entry_there (at_row tally number []) h e = other_count 0 (ending (end_word tally)) h.0 (λ x. x) e
  entry_there (at_row tally number (r ∷ later)) h e = e
  entry_there (at_bound current coming lines) h e = e
  entry_there (at_times current coming value) h e = e
  entry_there (at_raise current coming list) h e = e
  entry_there (at_verdict current range least most) h e = e
  entry_there (at_past current range least most) h e = e
  entry_there (at_slack tally number later range least most) h e = e
  entry_there (at_end word) h e = other_count 0 (ending word) h.0 (λ x. x) e
  entry_there at_last h e = absurd h

leads : (drawn : Drawn) (lines : List Entry) (here last : ReportState) → LinesLead (right drawn.net) drawn here lines last → All (IsReportEntry (length drawn.names)) lines
    → OrderLeads (place_of drawn here) lines (place_of drawn last)
leads drawn [] here last h all = ap (place_of drawn) h
leads drawn (line ∷ lines) here last h all = (
  place_of drawn h.0,
  record {
    is_entry = entry_there (right drawn.net) drawn line h.0 here h.1 (All-head (IsReportEntry (length drawn.names)) line lines all);
    leads = right_lines_keep_order drawn here line h.0 h.1;
  },
  leads drawn lines h.0 last h.2 (All-tail (IsReportEntry (length drawn.names)) line lines all),
)

pub right_is_report : RightIsReport
right_is_report drawn lines h all =
    let report : IsReport lines = leads drawn lines at_heading at_last h all in
    (report, record { entries = lines; report = report; text = refl })
