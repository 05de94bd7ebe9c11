-- What a check asks of each line of a report on a network: proofs in place of truth, and numbers below 2^61 in absolute value.
use Rattle.std.specs.Prelude.{◌≡◌, ℤ, List, All, IfSome}
use Rattle.event_graph.specs.Network.{Net}
use Rattle.event_graph.specs.Proof.{IsProof, Nothing, ProofLine}
use Rattle.event_graph.specs.RootBound.{MeetsAlways}
use Rattle.event_graph.specs.Times.{IsTime}
use Rattle.requirements.specs.declared.bound.Bound.{Bound}
use Rattle.requirements.specs.declared.bound.Bound.TheVariants as bounds
use Rattle.requirements.specs.declared.consistency.Consistency.{Consistency}
use Rattle.requirements.specs.declared.consistency.Consistency.TheVariants as findings
use Rattle.slack_report.specs.Entry.{Entry}
use Rattle.drawn_networks.specs.Drawn.{Drawn}
use Rattle.drawn_networks.specs.declared.row.Row.{Row}
use Rattle.right_report.specs.Right.ReportState.{NextBound, at_heading, at_last}
use Rattle.right_report.specs.Right.LineClaims.{HasAttained, IsLimit, right}
use Rattle.right_report.specs.Right.Following.{LineClaims, LinesLead}
use Rattle.right_report.specs.Shown.{goal_of}

-- an inconsistent finding is proved by the lines before it
abbrev pub ProvesFinding : Net → List ProofLine → Consistency → Type 0
ProvesFinding net lines findings.Consistent = Unit {0}
ProvesFinding net lines findings.Inconsistent = IsProof net Nothing lines
ProvesFinding net lines findings.Open = (list : List ℤ) × MeetsAlways list net

-- a closed bound is proved by the lines before it; the times after it show that it is attained
abbrev pub ProvesBound : Net → Consistency → Row → NextBound → List ProofLine → Bound → Type 0
ProvesBound net found r coming lines (bounds.Closed value) = (found ≡ findings.Consistent) × IsProof net (goal_of r coming value) lines
ProvesBound net found r coming lines bounds.Unbounded = found ≡ findings.Consistent
ProvesBound net found r coming lines (bounds.Within limit attained) = IsLimit net r coming limit × HasAttained found attained

-- the value or the attained number of a bound is below 2^61 in absolute value; of a limit this need not be asked
abbrev pub IsWithinTimes : Bound → Type 0
IsWithinTimes (bounds.Closed value) = IsTime value
IsWithinTimes bounds.Unbounded = Unit {0}
IsWithinTimes (bounds.Within limit attained) = IfSome attained IsTime

-- what a check asks of the claims of lines
abbrev pub checked : Net → LineClaims
checked net = record {
  finding = λ lines word. ProvesFinding net lines word;
  known = λ list. All IsTime list × (right net).known list;
  bound = λ found r coming lines value. IsWithinTimes value × ProvesBound net found r coming lines value;
  times = λ r value list. All IsTime list × (right net).times r value list;
  raise = λ r coming list set. (right net).raise r coming list set;
  past = λ r range word list. All IsTime list × (right net).past r range word list;
}

-- a whole report in which each line meets the check
abbrev pub IsChecked : Drawn → List Entry → Type 0
IsChecked drawn lines = LinesLead (checked drawn.net) drawn at_heading lines at_last
