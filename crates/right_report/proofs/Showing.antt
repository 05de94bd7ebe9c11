-- Reports that show their numbers are right.
use Rattle.std.proofs.Common.{ℕ}
use Rattle.event_graph.specs.Network.{Net}
use Rattle.right_report.specs.Right.ReportState.{at_heading, at_last}
use Rattle.right_report.specs.Right.LineClaims.{right}
use Rattle.right_report.specs.Right.Following.{Implies}
use Rattle.right_report.proofs.RightOrder.{reads_weaker}
use Rattle.right_report.specs.Laws.{BareIsRight, ShownIsRight}
use Rattle.right_report.specs.Shown.{bare, shown}

shown_implies : (net : Net) (most : ℕ) → Implies (shown net most) (right net)
shown_implies net most = record {
  finding = λ lines word h. h.0;
  known = λ list h. h;
  bound = λ found r coming lines value h. h.0;
  times = λ r value list h. h;
  raise = λ r coming list set h. h;
  past = λ r range word list h. h;
}

bare_implies : (net : Net) (most : ℕ) → Implies (bare net most) (right net)
bare_implies net most = record {
  finding = λ lines word h. h.0;
  known = λ list h. h;
  bound = λ found r coming lines value h. h.0;
  times = λ r value list h. h;
  raise = λ r coming list set h. h;
  past = λ r range word list h. h;
}

pub shown_is_right : ShownIsRight
shown_is_right drawn most lines h = reads_weaker (shown drawn.net most) (right drawn.net) drawn lines at_heading at_last (shown_implies drawn.net most) h.reads

pub bare_is_right : BareIsRight
bare_is_right drawn most lines h = reads_weaker (bare drawn.net most) (right drawn.net) drawn lines at_heading at_last (bare_implies drawn.net most) h.reads
