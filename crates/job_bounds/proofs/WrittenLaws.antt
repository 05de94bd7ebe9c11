-- What a written report is.
use Rattle.std.proofs.Common.{ℕ, ℤ, Bool, true, false, List, refl, sym, subst}
use Rattle.branch.specs.Needed.{IsNeededToFind}
use Rattle.event_graph.specs.Network.{Net}
use Rattle.event_graph.specs.Proof.{ProofLine}
use Rattle.event_graph.specs.Reading.{AtEachSplit}
use Rattle.event_graph.proofs.Sizes.{printed_times}
use Rattle.requirements.specs.declared.bound.Bound.{Bound}
use Rattle.requirements.specs.declared.bound.Bound.TheVariants as bounds
use Rattle.requirements.specs.declared.consistency.Consistency.{Consistency}
use Rattle.requirements.specs.declared.consistency.Consistency.TheVariants as findings
use Rattle.right_report.specs.Right.ReportState.{NextBound, at_heading, at_last}
use Rattle.slack_report.specs.Entry.{Entry}
use Rattle.drawn_networks.specs.Drawn.{Drawn}
use Rattle.drawn_networks.specs.declared.row.Row.{Row}
use Rattle.right_report.specs.Right.LineClaims.{IsBoundOf, IsFinding, IsRightReport, right}
use Rattle.right_report.specs.Right.Following.{Implies}
use Rattle.right_report.proofs.RightOrder.{reads_weaker}
use Rattle.right_report.specs.Checked.{ProvesBound, ProvesFinding, checked}
use Rattle.right_report.specs.Shown.{ShowsBound, ShowsFinding, bare, shown}
use Rattle.right_report.proofs.Ordering.{right_is_report}
use Rattle.job_bounds.specs.Laws.{BegunIsRight, WrittenIsAccepted, WrittenIsBare, WrittenIsChecked, WrittenIsShown}
use Rattle.job_bounds.specs.Reports.{IsWrittenReport}
use Rattle.job_bounds.specs.Written.{ArePrinted, IsEachNeeded, written}
use Rattle.job_bounds.proofs.Printed.{bound_within}

-- lines of proofs that are all printed
all_printed : (lines : List ProofLine) (Shows : List ProofLine → Type 0) → ArePrinted true lines Shows → Shows lines
all_printed lines Shows p = subst Shows (sym p.1) p.2

shown_of : (net : Net) (most : ℕ) (known : List ℤ) → Implies (written net most true known) (shown net most)
shown_of net most known = record {
  finding = λ lines word h. (h.0, (all_printed lines (λ searched. ShowsFinding net most searched word × AtEachSplit net (IsNeededToFind net) searched) h.1).0);
  known = λ list h. h.2;
  bound = λ found r coming lines value h. (h.1, (all_printed lines (λ searched. ShowsBound net most searched r coming value × IsEachNeeded net known r coming searched) h.2).0);
  times = λ r value list h. h.1;
  raise = λ r coming list set h. h;
  past = λ r range word list h. h.1;
}

bare_of : (net : Net) (most : ℕ) (known : List ℤ) → Implies (written net most false known) (bare net most)
bare_of net most known = record {
  finding = λ lines word h. (h.0, h.1.1, (h.1.0, h.1.2.0));
  known = λ list h. h.2;
  bound = λ found r coming lines value h. (h.1, h.2.1, (h.2.0, h.2.2.0));
  times = λ r value list h. h.1;
  raise = λ r coming list set h. h;
  past = λ r range word list h. h.1;
}

right_of : (net : Net) (most : ℕ) (cert : Bool) (known : List ℤ) → Implies (written net most cert known) (right net)
right_of net most cert known = record {
  finding = λ lines word h. h.0;
  known = λ list h. h.2;
  bound = λ found r coming lines value h. h.1;
  times = λ r value list h. h.1;
  raise = λ r coming list set h. h;
  past = λ r range word list h. h.1;
}

proves_finding : (net : Net) (most : ℕ) (lines : List ProofLine) (word : Consistency) → IsFinding net word → ShowsFinding net most lines word → ProvesFinding net lines word
proves_finding net most lines findings.Consistent f s = tt
proves_finding net most lines findings.Inconsistent f s = s.0
proves_finding net most lines findings.Open f s = f

proves_bound : (net : Net) (most : ℕ) (found : Consistency) (r : Row) (coming : NextBound) (lines : List ProofLine) (value : Bound) → IsBoundOf net found r coming value → ShowsBound net most lines r coming value
    → ProvesBound net found r coming lines value
proves_bound net most found r coming lines (bounds.Closed value) b s = (b.0, s.0)
proves_bound net most found r coming lines bounds.Unbounded b s = b
proves_bound net most found r coming lines (bounds.Within limit attained) b s = b

checked_of : (net : Net) (most : ℕ) (known : List ℤ) → Implies (written net most true known) (checked net)
checked_of net most known = record {
  finding = λ lines word h. proves_finding net most lines word h.0 ((shown_of net most known).finding lines word h).1;
  known = λ list h. (printed_times list h.1, h.2);
  bound = λ found r coming lines value h. (bound_within value h.0, proves_bound net most found r coming lines value h.1 ((shown_of net most known).bound found r coming lines value h).1);
  times = λ r value list h. (printed_times list h.0, h.1);
  raise = λ r coming list set h. h;
  past = λ r range word list h. (printed_times list h.0, h.1);
}

pub written_is_shown : WrittenIsShown
written_is_shown drawn most lines w =
    record { reads = reads_weaker (written drawn.net most true w.known) (shown drawn.net most) drawn lines at_heading at_last (shown_of drawn.net most w.known) w.reads; has_budget = w.has_budget }

pub written_is_bare : WrittenIsBare
written_is_bare drawn most lines w =
    record { reads = reads_weaker (written drawn.net most false w.known) (bare drawn.net most) drawn lines at_heading at_last (bare_of drawn.net most w.known) w.reads; has_budget = w.has_budget }

pub written_is_checked : WrittenIsChecked
written_is_checked drawn most lines w = reads_weaker (written drawn.net most true w.known) (checked drawn.net) drawn lines at_heading at_last (checked_of drawn.net most w.known) w.reads

-- with the lines of proofs or without them, a written report is right
pub written_is_right : (drawn : Drawn) (most : ℕ) (cert : Bool) (lines : List Entry) → IsWrittenReport drawn most cert lines → IsRightReport drawn lines
written_is_right drawn most cert lines w = reads_weaker (written drawn.net most cert w.known) (right drawn.net) drawn lines at_heading at_last (right_of drawn.net most cert w.known) w.reads

pub written_is_accepted : WrittenIsAccepted
written_is_accepted drawn most lines w names ranges =
    record {
      lines = lines;
      report = (right_is_report drawn lines (written_is_right drawn most true lines w) (w.texts names ranges)).0;
      text = refl;
      is_checked = written_is_checked drawn most lines w;
    }

pub begun_is_right : BegunIsRight
begun_is_right drawn most cert text b =
    (b.lines, (b.last, reads_weaker (written drawn.net most cert b.known) (right drawn.net) drawn b.lines at_heading b.last (right_of drawn.net most cert b.known) b.reads), b.is_text)
