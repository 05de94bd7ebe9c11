-- What job bounds claims of the lines that it writes. Each line is right. Lines of proofs show the numbers of a search; they are printed if `cert`
-- asks for them, and they split only where this is needed. All times may be printed.
use Rattle.std.specs.Prelude.{◌≡◌, ℕ, ℤ, Bool, true, false, List, [], All, IfSome}
use Rattle.branch.specs.Needed.{IsNeededToBound, IsNeededToFind}
use Rattle.drawn_networks.specs.declared.row.Row.{Row}
use Rattle.event_graph.specs.Limits.{IsPrintedTime, IsReach}
use Rattle.event_graph.specs.Network.{Net}
use Rattle.event_graph.specs.Proof.{ProofLine}
use Rattle.event_graph.specs.Reading.{AtEachSplit}
use Rattle.event_graph.specs.Times.{separation}
use Rattle.requirements.specs.declared.bound.Bound.{Bound}
use Rattle.requirements.specs.declared.bound.Bound.TheVariants as bounds
use Rattle.right_report.specs.Right.ReportState.{NextBound, greatest, least_by}
use Rattle.right_report.specs.Right.LineClaims.{right}
use Rattle.right_report.specs.Right.Following.{LineClaims}
use Rattle.right_report.specs.Shown.{ShowsBound, ShowsFinding}

-- which lines of a search are printed: all or none
abbrev pub printed : Bool → List ProofLine → List ProofLine
printed true lines = lines
printed false lines = []

-- a search wrote down lines that show a number; all of them are printed, or none
abbrev pub ArePrinted : Bool → List ProofLine → (List ProofLine → Type 0) → Type 0
ArePrinted cert lines Shows = (searched : List ProofLine) × (lines ≡ printed cert searched) × Shows searched

-- each number of a bound is small enough to be printed, and its limit is within the reach of a path
abbrev pub HasPrintedTimes : Bound → Type 0
HasPrintedTimes (bounds.Closed value) = IsPrintedTime value
HasPrintedTimes bounds.Unbounded = Unit {0}
HasPrintedTimes (bounds.Within limit attained) = IfSome limit IsReach × IfSome attained IsPrintedTime

-- each split of the lines of a bound was needed in a search that began with these known times
abbrev pub IsEachNeeded : Net → List ℤ → Row → NextBound → List ProofLine → Type 0
IsEachNeeded net known r greatest lines = AtEachSplit net (IsNeededToBound net r.from r.to (separation known r.from r.to)) lines
IsEachNeeded net known r (least_by most) lines = AtEachSplit net (IsNeededToBound net r.to r.from (separation known r.to r.from)) lines

-- the line claims of job bounds; `known` are the times that are printed after a consistent finding
abbrev pub written : Net → ℕ → Bool → List ℤ → LineClaims
written net most cert known = record {
  finding = λ lines word. (right net).finding lines word
      × ArePrinted cert lines (λ searched. ShowsFinding net most searched word × AtEachSplit net (IsNeededToFind net) searched);
  known = λ list. (list ≡ known) × All IsPrintedTime list × (right net).known list;
  bound = λ found r coming lines value. HasPrintedTimes value × (right net).bound found r coming lines value
      × ArePrinted cert lines (λ searched. ShowsBound net most searched r coming value × IsEachNeeded net known r coming searched);
  times = λ r value list. All IsPrintedTime list × (right net).times r value list;
  raise = λ r coming list set. (right net).raise r coming list set;
  past = λ r range word list. All IsPrintedTime list × (right net).past r range word list;
}
