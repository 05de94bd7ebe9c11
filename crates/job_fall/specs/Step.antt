-- What the steps of job fall promise one another.
use Rattle.std.specs.Prelude.{◌≡◌, ◌≤◌, ◌||◌, ◌+◌, ℕ, ℤ, Bool, false, true, if◌then◌else◌, List, ◌++◌, length, Result, Ok, Err}
use Rattle.std.specs.List.{concat}
use Rattle.itv_base.specs.declared.names.EventId.{EventId}
use Rattle.itv_base.specs.Outside.{CutShort, SinkState, grown}
use Rattle.event_graph.specs.Network.{IsNet, Net}
use Rattle.event_graph.specs.Satisfying.{Satisfies}
use Rattle.event_graph.specs.Times.{moved}
use Rattle.falling.specs.declared.answer.Fallen.{Fallen}
use Rattle.falling.specs.declared.answer.Fallen.TheVariants as fallen
use Rattle.falling.specs.declared.line.FallLine.{FallLine}
use Rattle.falling.specs.Derivation.{IsDerivation}
use Rattle.falling.specs.Fallen.{asked_of}
use Rattle.falling.specs.Solving.{AnswersAs, IsMadeFor, FallingView}
use Rattle.job_fall.specs.FallText.{fall_text}
use Rattle.slack_report.specs.declared.words.EndWord.{EndWord}
use Rattle.slack_report.specs.declared.words.EndWord.TheVariants as endings
use Rattle.slack_report.specs.declared.words.Which.{Which}
use Rattle.drawn_networks.specs.declared.row.Row.{Row}
use Rattle.drawn_networks.specs.Drawn.{Drawn}
use Rattle.job_fall.specs.declared.desk.Desk.{Desk}
use Rattle.requirements.specs.declared.consistency.Consistency.{Consistency}
use Rattle.requirements.specs.declared.consistency.Consistency.TheVariants as founds
use Rattle.falling.specs.declared.view.View.{View}
use Rattle.falling.specs.declared.view.View.TheVariants.{Plain}
use Rattle.job_fall.specs.declared.wanted.Wanted.{Wanted}
use Rattle.job_fall.specs.Fall.{AreBegun, Job, TextState, PiecesLead, FallRow, at_end, at_rows, before_rows}
use Rattle.job_fall.specs.Shows.{IsFinding, shown_by}
use Rattle.job_fall.specs.Text.{FallBound, Finding, bound_spent, consistent, finding_spent, inconsistent, closed, printed, unbounded}
use Rattle.falling.specs.View.{IsViewOf}
use Rattle.job_fall.specs.View.{seen, source, target}

-- the sink's text grew by exactly the texts of the lines
abbrev pub SinkGrew : SinkState → List FallLine → SinkState → Type 0
SinkGrew old lines new = new ≡ grown old (fall_text lines)

-- the sink's text grew by a front of the lines' texts, and the count of faults rose
abbrev pub SinkWasCut : SinkState → List FallLine → SinkState → Type 0
SinkWasCut old lines new = CutShort old new (fall_text lines)

-- the memory is made for a network
pub record IsSet (net : Net) (desk : Desk) : Type 0 where
  pub is_net : IsNet net
  pub made : IsMadeFor net desk.solver
  pub times : length desk.times.items ≡ net.events

-- ---- searches

-- a search wrote the lines of a derivation to a sink, if they are printed, and `Shows` holds of the lines
abbrev pub WroteDerivation : Bool → SinkState → SinkState → (List FallLine → Type 0) → Type 0
WroteDerivation cert old new Shows = (lines : List FallLine) × SinkGrew old (printed cert lines) new × Shows lines

-- a search was cut short in lines that begin a derivation, as `Begin` says
abbrev pub WasCut : Bool → SinkState → SinkState → (List FallLine → Type 0) → Type 0
WasCut cert old new Begin = (lines : List FallLine) × SinkWasCut old (printed cert lines) new × Begin lines

-- the lines begin a derivation from the event that `from` gives for the view. There are at most as many lines as turns
abbrev pub BeginsFrom : Net → ℕ → (View → EventId) → List FallLine → Type 0
BeginsFrom net turns from lines = (length lines ≤ turns) × ((view : View) → IsViewOf net view → (values : List ℤ) × IsDerivation (seen view net) (from view) lines values)

-- the lines show a finding. There are at most as many lines as turns
abbrev pub ShowsFinding : Net → ℕ → List FallLine → Finding → Type 0
ShowsFinding net turns lines found = (length lines ≤ turns) × ((view : View) → IsViewOf net view → IsFinding view net turns lines found)

-- what a solver answers for the searched pair of a row, with at most as many lines as turns
abbrev pub AnswersRow : Net → Which → Row → ℕ → List FallLine → FallingView → Fallen → Type 0
AnswersRow net which r turns lines solver answer =
    (length lines ≤ turns) × AnswersAs solver.negation net (asked_of (source Plain which r) (target Plain which r) turns) lines solver.times solver.ray answer

-- ---- what is written

-- the finding from an answer for the pair of event 0 and event 0. That pair is never unbounded
abbrev pub found_by : Fallen → Consistency
found_by (fallen.Closed value) = founds.Consistent
found_by fallen.Unbounded = founds.Consistent
found_by fallen.Inconsistent = founds.Inconsistent
found_by fallen.Spent = founds.Open

abbrev pub shown_finding : Consistency → List ℤ → Finding
shown_finding founds.Consistent list = consistent list
shown_finding founds.Inconsistent list = inconsistent
shown_finding founds.Open list = finding_spent

-- if the finding is consistent, some times satisfy
abbrev pub HasFound : Net → Consistency → Type 0
HasFound net founds.Consistent = (times : List ℤ) × Satisfies times net
HasFound net founds.Inconsistent = Unit {0}
HasFound net founds.Open = Unit {0}

-- the bound of a row with this from-event, from an answer. For a consistent network no answer is inconsistent
abbrev pub shown_bound : Which → EventId → List ℤ → List Bool → Fallen → FallBound
shown_bound which from times ray (fallen.Closed value) = closed (shown_by which value) (moved from times)
shown_bound which from times ray fallen.Unbounded = unbounded (moved from times) ray
shown_bound which from times ray fallen.Inconsistent = bound_spent
shown_bound which from times ray fallen.Spent = bound_spent

abbrev pub was_spent : Fallen → Bool
was_spent (fallen.Closed value) = false
was_spent fallen.Unbounded = false
was_spent fallen.Inconsistent = false
was_spent fallen.Spent = true

-- ---- pieces of text

-- a job on a drawn network
abbrev pub asked : Drawn → View → Wanted → Job
asked drawn view wanted = record { drawn = drawn; view = view; turns = wanted.turns; cert = wanted.cert }

-- the job is on this network, in one of its views, and asks for this
pub record IsJobOf (net : Net) (wanted : Wanted) (job : Job) : Type 0 where
  pub net_is : job.drawn.net ≡ net
  pub view : IsViewOf net job.view
  pub turns : job.turns ≡ wanted.turns
  pub cert : job.cert ≡ wanted.cert

-- a row that is being written
abbrev pub fall_row : Bool → ℕ → Row → List Row → FallRow
fall_row spent number r later = record { spent = spent; number = number; row = r; later = later }

-- pieces that lead from one state to another were put as a whole
pub record WrotePieces (job : Job) (here last : TextState) (old new : SinkState) : Type 0 where
  pub pieces : List (List ℕ)
  pub reads : PiecesLead job here pieces last
  pub grew : new ≡ grown old (concat pieces)

-- a put failed. Pieces lead from a state to some other state, and lines of a derivation begin there. A front of all this was put
pub record WrotePieceFront (job : Job) (here : TextState) (old new : SinkState) : Type 0 where
  pub pieces : List (List ℕ)
  pub last : TextState
  pub reads : PiecesLead job here pieces last
  pub begun : List FallLine
  pub are_begun : AreBegun job last begun
  pub cut : CutShort old new (concat pieces ++ fall_text begun)

-- a step puts pieces that lead to a state that its answer names, or a front of such pieces
abbrev pub WritesPieces : {B E : Type 0} → Job → TextState → (B → TextState) → SinkState → SinkState → Result B E → Type 0
WritesPieces job here to old new (Ok x) = WrotePieces job here (to x) old new
WritesPieces job here to old new (Err e) = WrotePieceFront job here old new

-- the state after a finding
abbrev pub behind_found : Consistency → TextState
behind_found founds.Consistent = at_rows
behind_found founds.Inconsistent = at_end endings.Inconsistent
behind_found founds.Open = at_end endings.Undecided

-- the state after both bounds of a row. It depends on whether the turns of one of them were spent
abbrev pub behind_row : FallRow → Bool → TextState
behind_row current spent = before_rows (current.spent || spent) (current.number + 1) current.later

-- the word at the end after all rows
abbrev pub end_word : Bool → EndWord
end_word spent = if spent then endings.Undecided else endings.Pass

abbrev pub before_end : Bool → TextState
before_end spent = at_end (end_word spent)
