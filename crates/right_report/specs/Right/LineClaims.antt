-- The claims that the lines of a right report make.
use Rattle.std.specs.Prelude.{◌≡◌, ℤ, pos, neg_ℤ, ◌<ℤ◌, Bool, List, Option, IfSome, IsNone, IsSome, IsSomeAnd, option_map}
use Rattle.itv_base.specs.Range.{Ends}
use Rattle.event_graph.specs.Bounds.{IsGreatest, IsInconsistent, IsLeast, IsRay}
use Rattle.event_graph.specs.Network.{Net}
use Rattle.event_graph.specs.RootBound.{IsRootBound, MeetsAlways}
use Rattle.event_graph.specs.Satisfying.{Satisfies}
use Rattle.event_graph.specs.Times.{separation, time_of}
use Rattle.requirements.specs.declared.bound.Bound.{Bound}
use Rattle.requirements.specs.declared.bound.Bound.TheVariants as bounds
use Rattle.requirements.specs.declared.verdict.Verdict.{Verdict}
use Rattle.requirements.specs.declared.verdict.Verdict.TheVariants as verdicts
use Rattle.requirements.specs.declared.consistency.Consistency.{Consistency}
use Rattle.requirements.specs.declared.consistency.Consistency.TheVariants as findings
use Rattle.slack_report.specs.Entry.{Entry}
use Rattle.drawn_networks.specs.Drawn.{AreTimes, Drawn}
use Rattle.drawn_networks.specs.declared.row.Row.{Row}
use Rattle.right_report.specs.Right.ReportState.{ReportState, NextBound, at_heading, at_last, greatest, least_by}
use Rattle.right_report.specs.Right.Following.{LineClaims, LinesLead}

-- a finding is right: no times satisfy if it is inconsistent, and some times meet the always-edges if it is unsettled
abbrev pub IsFinding : Net → Consistency → Type 0
IsFinding net findings.Consistent = Unit {0}
IsFinding net findings.Inconsistent = IsInconsistent net
IsFinding net findings.Open = (list : List ℤ) × MeetsAlways list net

-- a closed bound is the greatest or the least separation
abbrev pub IsClosed : Net → Row → NextBound → ℤ → Type 0
IsClosed net r greatest value = IsGreatest net r.from r.to value
IsClosed net r (least_by most) value = IsLeast net r.from r.to value

-- a limit is the root bound of the pair; for a least separation it is minus the root bound of the reversed pair
abbrev pub IsLimit : Net → Row → NextBound → Option ℤ → Type 0
IsLimit net r greatest limit = IsRootBound net r.from r.to limit
IsLimit net r (least_by most) limit = IsRootBound net r.to r.from (option_map neg_ℤ limit)

-- a bound within limits has an attained number after a consistent finding, and none after an unsettled one
abbrev pub HasAttained : Consistency → Option ℤ → Type 0
HasAttained findings.Consistent attained = IsSome attained
HasAttained findings.Inconsistent attained = ⊥
HasAttained findings.Open attained = IsNone attained

abbrev pub IsBoundOf : Net → Consistency → Row → NextBound → Bound → Type 0
IsBoundOf net found r coming (bounds.Closed value) = (found ≡ findings.Consistent) × IsClosed net r coming value
IsBoundOf net found r coming bounds.Unbounded = found ≡ findings.Consistent
IsBoundOf net found r coming (bounds.Within limit attained) = IsLimit net r coming limit × HasAttained found attained

-- the times have the separation that a bound says
abbrev pub Attains : Row → Bound → List ℤ → Type 0
Attains r (bounds.Closed value) list = separation list r.from r.to ≡ value
Attains r bounds.Unbounded list = Unit {0}
Attains r (bounds.Within limit attained) list = IfSome attained (λ value. separation list r.from r.to ≡ value)

-- the set can be raised by any number; it has the to-event for a greatest separation, and the from-event for a least one
abbrev pub CanRise : Net → Row → NextBound → List ℤ → List Bool → Type 0
CanRise net r greatest list set = IsRay net r.from r.to list set
CanRise net r (least_by most) list set = IsRay net r.to r.from list set

-- the times break the end that a verdict names
abbrev pub BreaksEnd : Row → Ends → Verdict → List ℤ → Type 0
BreaksEnd r range verdicts.FailHigh list = IsSomeAnd range.high (λ high. high <ℤ separation list r.from r.to)
BreaksEnd r range verdicts.FailLow list = IsSomeAnd range.low (λ low. separation list r.from r.to <ℤ low)
BreaksEnd r range verdicts.Pass list = ⊥
BreaksEnd r range verdicts.Undecided list = ⊥

-- the claims that a right report has to make truly
abbrev pub right : Net → LineClaims
right net = record {
  finding = λ lines word. IsFinding net word;
  known = λ list. Satisfies list net × (time_of list (record { 0 = 0 }) ≡ pos 0);
  bound = λ found r coming lines value. IsBoundOf net found r coming value;
  times = λ r value list. AreTimes net r list × Attains r value list;
  raise = λ r coming list set. CanRise net r coming list set;
  past = λ r range word list. AreTimes net r list × BreaksEnd r range word list;
}

-- a right report: whole, and each line is right, given the lines before it
abbrev pub IsRightReport : Drawn → List Entry → Type 0
IsRightReport drawn lines = LinesLead (right drawn.net) drawn at_heading lines at_last

-- the lines begin a right report: each is right, given the lines before it
abbrev pub BeginsRightReport : Drawn → List Entry → Type 0
BeginsRightReport drawn lines = (at : ReportState) × LinesLead (right drawn.net) drawn at_heading lines at
