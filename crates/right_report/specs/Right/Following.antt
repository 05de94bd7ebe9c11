-- Which lines may follow in a state, and to which state they lead.
use Rattle.std.specs.Prelude.{◌≡◌, ◌⊎◌, ◌+◌, ℕ, ℤ, Bool, List, [], ◌∷◌, ◌++◌, length}
use Rattle.itv_base.specs.Range.{Ends}
use Rattle.event_graph.specs.Proof.{ProofLine}
use Rattle.requirements.specs.declared.bound.Bound.{Bound}
use Rattle.requirements.specs.declared.bound.Bound.TheVariants as bounds
use Rattle.requirements.specs.declared.verdict.Verdict.{Verdict}
use Rattle.requirements.specs.Slacks.{slack_of}
use Rattle.requirements.specs.Verdicts.{verdict_of}
use Rattle.requirements.specs.declared.consistency.Consistency.{Consistency}
use Rattle.requirements.specs.declared.consistency.Consistency.TheVariants as findings
use Rattle.slack_report.specs.Entry.{Entry, heading, budget, events, event, proof, finding, times, rows, row, bound, raise, verdict, slack, ending}
use Rattle.drawn_networks.specs.Drawn.{Drawn, name_of}
use Rattle.drawn_networks.specs.declared.row.Row.{Row}
use Rattle.right_report.specs.Right.ReportState.{ReportState, NextBound, CurrentRow, at_heading, at_budget, at_events, at_event, at_finding, at_known, at_rows, at_row, at_bound, at_times, at_raise, at_verdict, at_past, at_slack, at_end, at_last, behind_bound, behind_finding, behind_past, behind_times, behind_verdict, bounded, tally_of, end_word, greatest, which_of}
use Rattle.right_report.specs.declared.tally.ReportTally.{ReportTally}

-- What each kind of line has to say truly of the network. Each reader of a report asks for something of its own.
pub record LineClaims : Type 1 where
  pub finding : List ProofLine → Consistency → Type 0
  pub known : List ℤ → Type 0
  pub bound : Consistency → Row → NextBound → List ProofLine → Bound → Type 0
  pub times : Row → Bound → List ℤ → Type 0
  pub raise : Row → NextBound → List ℤ → List Bool → Type 0
  pub past : Row → Ends → Verdict → List ℤ → Type 0

-- a line of a proof follows, or the finding after the lines of its proof
abbrev pub MayFind : LineClaims → List ProofLine → Entry → ReportState → Type 0
MayFind claims lines line next =
    ((more : ProofLine) × (line ≡ proof more) × (next ≡ at_finding (lines ++ more ∷ [])))
    ⊎ ((word : Consistency) × (line ≡ finding word) × claims.finding lines word × (next ≡ behind_finding word))

-- a line of a proof follows, or the bound after the lines of its proof
abbrev pub MayBound : LineClaims → CurrentRow → NextBound → List ProofLine → Entry → ReportState → Type 0
MayBound claims current coming lines line next =
    ((more : ProofLine) × (line ≡ proof more) × (next ≡ at_bound current coming (lines ++ more ∷ [])))
    ⊎ ((value : Bound) × (line ≡ bound (which_of coming) value) × claims.bound current.tally.found current.row coming lines value × (next ≡ behind_bound current coming value))

-- a line leads from a state to another
abbrev pub MayFollow : LineClaims → Drawn → ReportState → Entry → ReportState → Type 0
MayFollow claims drawn at_heading line next = (line ≡ heading) × (next ≡ at_budget)
MayFollow claims drawn at_budget line next = (most : ℕ) × (line ≡ budget most) × (next ≡ at_events)
MayFollow claims drawn at_events line next = (line ≡ events (length drawn.names)) × (next ≡ at_event 0 drawn.names)
MayFollow claims drawn (at_event number (name ∷ names)) line next = (line ≡ event number name) × (next ≡ at_event (number + 1) names)
MayFollow claims drawn (at_event number []) line next = MayFind claims [] line next
MayFollow claims drawn (at_finding lines) line next = MayFind claims lines line next
MayFollow claims drawn at_known line next = (list : List ℤ) × (line ≡ times list) × claims.known list × (next ≡ at_rows findings.Consistent)
MayFollow claims drawn (at_rows word) line next = (line ≡ rows (length drawn.rows)) × (next ≡ at_row (tally_of word) 0 drawn.rows)
MayFollow claims drawn (at_row tally number []) line next = (line ≡ ending (end_word tally)) × (next ≡ at_last)
MayFollow claims drawn (at_row tally number (r ∷ later)) line next =
    (line ≡ row number r.kind (name_of drawn r.from) (name_of drawn r.to)) × (next ≡ at_bound (record { tally = tally; number = number; row = r; later = later }) greatest [])
MayFollow claims drawn (at_bound current coming lines) line next = MayBound claims current coming lines line next
MayFollow claims drawn (at_times current coming value) line next =
    (list : List ℤ) × (line ≡ times list) × claims.times current.row value list × (next ≡ behind_times current coming value list)
MayFollow claims drawn (at_raise current coming list) line next =
    (set : List Bool) × (line ≡ raise set) × claims.raise current.row coming list set × (next ≡ bounded current coming bounds.Unbounded)
MayFollow claims drawn (at_verdict current range least most) line next =
    (line ≡ verdict (verdict_of range least most)) × (next ≡ behind_verdict current range least most (verdict_of range least most))
MayFollow claims drawn (at_past current range least most) line next =
    (list : List ℤ) × (line ≡ times list) × claims.past current.row range (verdict_of range least most) list × (next ≡ behind_past current range least most (verdict_of range least most))
MayFollow claims drawn (at_slack tally number later range least most) line next = (line ≡ slack (slack_of range least most)) × (next ≡ at_row tally number later)
MayFollow claims drawn (at_end word) line next = (line ≡ ending word) × (next ≡ at_last)
MayFollow claims drawn at_last line next = ⊥

-- lines lead one after another from a state to another
abbrev pub LinesLead : LineClaims → Drawn → ReportState → List Entry → ReportState → Type 0
LinesLead claims drawn at [] last = at ≡ last
LinesLead claims drawn at (line ∷ lines) last = (next : ReportState) × MayFollow claims drawn at line next × LinesLead claims drawn next lines last

-- all that one reader accepts, another reader accepts too
pub record Implies (claims other : LineClaims) : Type 0 where
  pub finding : (lines : List ProofLine) (word : Consistency) → claims.finding lines word → other.finding lines word
  pub known : (list : List ℤ) → claims.known list → other.known list
  pub bound : (found : Consistency) (r : Row) (coming : NextBound) (lines : List ProofLine) (value : Bound) → claims.bound found r coming lines value → other.bound found r coming lines value
  pub times : (r : Row) (value : Bound) (list : List ℤ) → claims.times r value list → other.times r value list
  pub raise : (r : Row) (coming : NextBound) (list : List ℤ) (set : List Bool) → claims.raise r coming list set → other.raise r coming list set
  pub past : (r : Row) (range : Ends) (word : Verdict) (list : List ℤ) → claims.past r range word list → other.past r range word list
