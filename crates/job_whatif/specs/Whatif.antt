-- What job whatif answers and writes.
use Rattle.std.specs.Prelude.{◌≡◌, ℕ, List, map}
use Rattle.itv_base.specs.declared.row_kind.RowKind.{RowKind}
use Rattle.event_graph.specs.Network.{Net}
use Rattle.drawn_networks.specs.Drawn.{Drawn}
use Rattle.drawn_networks.specs.declared.row.Row.{Row}
use Rattle.job_base.specs.Ending.{answer_of}
use Rattle.job_base.specs.declared.answer.Answer.{Answer}
use Rattle.range_edits.specs.declared.edit.RangeEdit.{RangeEdit}
use Rattle.whatif.specs.declared.change.Change.{Change}
use Rattle.event_graph.specs.declared.pair.Pair.{Pair}
use Rattle.whatif.specs.Session.{AttainsKnown, IsRight, SessionView}
use Rattle.whatif.specs.Runs.{IsRun, Note, note_of}
use Rattle.right_report.specs.RowTally.{kinds_of}
use Rattle.job_whatif.specs.Text.{ending_of, last_note, whatif_text}

-- the pair of a row
abbrev pub pair_of : Row → Pair
pair_of row = record { from = row.from; to = row.to }

abbrev pub pairs_of : List Row → List Pair
pairs_of rows = map pair_of rows

-- a new session of pairs of events of a network. Each of its searches closes at most `budget` cases
pub record IsFirst (net : Net) (pairs : List Pair) (budget : ℕ) (s : SessionView) : Type 0 where
  pub net_is : s.net ≡ net
  pub budget_is : s.budget ≡ budget
  pub pairs_are : s.pairs ≡ pairs
  pub right : IsRight s
  pub least : AttainsKnown s

-- nothing was kept, and nothing was searched anew
abbrev pub no_change : Change
no_change = record { kept = 0; searched = 0 }

-- The edits of a drawn network lead from a session through other sessions, each of which is right. The text is of all these sessions, and the last
-- one gives the answer.
pub record AnswersFrom (drawn : Drawn) (first : SessionView) (kinds : List RowKind) (edits : List RangeEdit) (answer : Answer) (text : List ℕ) : Type 0 where
  pub last : SessionView
  pub notes : List Note
  pub run : IsRun drawn first edits last notes
  pub note : Note
  pub noted : note ≡ note_of no_change first
  pub is_text : text ≡ whatif_text kinds note edits notes
  pub is_answer : answer ≡ answer_of (ending_of kinds (last_note note notes).found (last_note note notes).answers)

-- the answer and the text from a new session of the drawn network
abbrev pub AnswersFor : Drawn → List Pair → List RowKind → ℕ → List RangeEdit → Answer → List ℕ → Type 0
AnswersFor drawn pairs kinds budget edits answer text = (first : SessionView) × IsFirst drawn.net pairs budget first × AnswersFrom drawn first kinds edits answer text

-- what the job answers and writes for a drawn network
abbrev pub AnswersWhatif : Drawn → ℕ → List RangeEdit → Answer → List ℕ → Type 0
AnswersWhatif drawn budget edits answer text = AnswersFor drawn (pairs_of drawn.rows) (kinds_of drawn.rows) budget edits answer text
