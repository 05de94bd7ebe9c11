-- A report in which each line meets the check is right.
use Rattle.std.proofs.Common.{◌≡◌, ℤ, neg_ℤ, List, [], ◌∷◌, inl, inr, subst}
use Rattle.event_graph.specs.Network.{Net}
use Rattle.event_graph.specs.Proof.{IsProof, ProofLine}
use Rattle.event_graph.specs.Times.{separation, time_of}
use Rattle.event_graph.proofs.SoundProofs.{proof_bounds, proof_of_nothing}
use Rattle.event_graph.proofs.Reversing.{above_value}
use Rattle.requirements.specs.declared.bound.Bound.{Bound}
use Rattle.requirements.specs.declared.bound.Bound.TheVariants.{Closed, Unbounded, Within}
use Rattle.requirements.specs.declared.consistency.Consistency.{Consistency}
use Rattle.requirements.specs.declared.consistency.Consistency.TheVariants.{Consistent, Inconsistent, Open}
use Rattle.slack_report.specs.Entry.{Entry}
use Rattle.drawn_networks.specs.Drawn.{Drawn, AreTimes}
use Rattle.drawn_networks.specs.declared.row.Row.{Row}
use Rattle.right_report.specs.Right.ReportState.{ReportState, NextBound, CurrentRow, at_heading, at_budget, at_events, at_event, at_finding, at_known, at_rows, at_row, at_bound, at_times, at_raise, at_verdict, at_past, at_slack, at_end, at_last, behind_bound, greatest, least_by}
use Rattle.right_report.specs.Right.LineClaims.{IsBoundOf, IsClosed, IsFinding, right}
use Rattle.right_report.specs.Right.Following.{MayBound, MayFind, MayFollow, LinesLead}
use Rattle.right_report.specs.Checked.{ProvesBound, ProvesFinding, checked}
use Rattle.right_report.specs.Laws.{CheckedIsRight}
use Rattle.right_report.specs.Shown.{goal_of}

is_finding : (net : Net) (lines : List ProofLine) (word : Consistency) → ProvesFinding net lines word → IsFinding net word
is_finding net lines Consistent h = h
is_finding net lines Inconsistent h = proof_of_nothing net lines h
is_finding net lines Open h = h

-- a bound that is proved, and attained by times, is closed
is_closed : (net : Net) (r : Row) (coming : NextBound) (value : ℤ) (lines : List ProofLine) (list : List ℤ) → IsProof net (goal_of r coming value) lines → AreTimes net r list → separation list r.from r.to ≡ value
    → IsClosed net r coming value
is_closed net r greatest value lines list p t e = record {
  attained = (list, t.satisfied, e);
  most = λ times sat. proof_bounds net r.from r.to value lines times p sat;
}
is_closed net r (least_by most) value lines list p t e = record {
  attained = (list, t.satisfied, e);
  least = λ times sat. above_value (time_of times r.from) (time_of times r.to) value (proof_bounds net r.to r.from (neg_ℤ value) lines times p sat);
}

-- the times after a closed bound
attained : (drawn : Drawn) (current : CurrentRow) (coming : NextBound) (value : ℤ) (lines : List Entry) → LinesLead (checked drawn.net) drawn (at_times current coming (Closed value)) lines at_last
    → (list : List ℤ) × AreTimes drawn.net current.row list × (separation list current.row.from current.row.to ≡ value)
attained drawn current coming value [] h = absurd (cc)
attained drawn current coming value (line ∷ lines) h = let m = h.1 in (m.0, m.2.1.0, m.2.1.1)

is_bound : (drawn : Drawn) (current : CurrentRow) (coming : NextBound) (lines : List ProofLine) (value : Bound) (next : ReportState) (rest : List Entry) → ProvesBound drawn.net current.tally.found current.row coming lines value
    → next ≡ behind_bound current coming value → LinesLead (checked drawn.net) drawn next rest at_last → IsBoundOf drawn.net current.tally.found current.row coming value
is_bound drawn current coming lines (Closed value) next rest p e h =
    let t = attained drawn current coming value rest (subst (λ x. LinesLead (checked drawn.net) drawn x rest at_last) e h) in
    (p.0, is_closed drawn.net current.row coming value lines t.0 p.1 t.1 t.2)
is_bound drawn current coming lines Unbounded next rest p e h = p
is_bound drawn current coming lines (Within limit attained) next rest p e h = p

find : (net : Net) (lines : List ProofLine) (line : Entry) (next : ReportState) → MayFind (checked net) lines line next → MayFind (right net) lines line next
find net lines line next (inl h) = inl h
find net lines line next (inr h) = inr (h.0, h.1, is_finding net lines h.0 h.2, h.3)

bind : (drawn : Drawn) (current : CurrentRow) (coming : NextBound) (lines : List ProofLine) (line : Entry) (next : ReportState) (rest : List Entry) → MayBound (checked drawn.net) current coming lines line next
    → LinesLead (checked drawn.net) drawn next rest at_last → MayBound (right drawn.net) current coming lines line next
bind drawn current coming lines line next rest (inl h) more = inl h
bind drawn current coming lines line next rest (inr h) more = inr (h.0, h.1, is_bound drawn current coming lines h.0 next rest h.2.1 h.3 more, h.3)

-- a line that meets the check is right, if all lines after it meet the check too
follow : (drawn : Drawn) (here : ReportState) (line : Entry) (next : ReportState) (rest : List Entry) → MayFollow (checked drawn.net) drawn here line next → LinesLead (checked drawn.net) drawn next rest at_last
    → MayFollow (right drawn.net) drawn here line next
follow drawn at_heading line next rest h more = h
follow drawn at_budget line next rest h more = h
follow drawn at_events line next rest h more = h
follow drawn (at_event number (name ∷ names)) line next rest h more = h
follow drawn (at_event number []) line next rest h more = find drawn.net [] line next h
follow drawn (at_finding lines) line next rest h more = find drawn.net lines line next h
follow drawn at_known line next rest h more = (h.0, h.1, h.2.1, h.3)
follow drawn (at_rows word) line next rest h more = h
follow drawn (at_row tally number []) line next rest h more = h
follow drawn (at_row tally number (r ∷ later)) line next rest h more = h
follow drawn (at_bound current coming lines) line next rest h more = bind drawn current coming lines line next rest h more
follow drawn (at_times current coming value) line next rest h more = (h.0, h.1, h.2.1, h.3)
follow drawn (at_raise current coming list) line next rest h more = h
follow drawn (at_verdict current range least most) line next rest h more = h
follow drawn (at_past current range least most) line next rest h more = (h.0, h.1, h.2.1, h.3)
follow drawn (at_slack tally number later range least most) line next rest h more = h
follow drawn (at_end word) line next rest h more = h
follow drawn at_last line next rest h more = h

from_place : (drawn : Drawn) (lines : List Entry) (here : ReportState) → LinesLead (checked drawn.net) drawn here lines at_last → LinesLead (right drawn.net) drawn here lines at_last
from_place drawn [] here h = h
from_place drawn (line ∷ lines) here h = (h.0, follow drawn here line h.0 lines h.1 h.2, from_place drawn lines h.0 h.2)

pub checked_is_right : CheckedIsRight
checked_is_right drawn lines h = from_place drawn lines at_heading h
