-- The exit status of the program.
use Rattle.std.specs.Prelude.{◌≡◌, ℕ, false, List, [], None}
use Rattle.std.specs.declared.io.ErrorKind.{ErrorKind}
use Rattle.std.specs.declared.io.ErrorKind.TheVariants.{OutOfMemory}
use Rattle.itv_base.specs.Outside.{ShelfState, SinkState}
use Rattle.itv_cli.specs.declared.outcome.Outcome.{Outcome}
use Rattle.itv_cli.specs.declared.outcome.Outcome.TheVariants.{AllPass, Help, SomeFail, Inconsistent, Undecided, Refused, ReadFault, WriteFault, NoMemory, BadWords, CheckRefused}
use Rattle.itv_cli.specs.Run.{Call, OutcomeMeans, call_of}

-- the status of each end of a run
abbrev pub code_of : Outcome → ℕ
code_of AllPass = 0
code_of Help = 0
code_of SomeFail = 1
code_of Inconsistent = 2
code_of Undecided = 3
code_of Refused = 4
code_of ReadFault = 5
code_of WriteFault = 6
code_of NoMemory = 7
code_of BadWords = 8
code_of CheckRefused = 9

-- the status of the program where the system does not give its words
abbrev pub no_words : ℕ
no_words = 10

-- the status where the system gives an error of a kind in place of the words: it lacks the memory for them, or it does not have them
abbrev pub status_without_words : ErrorKind → ℕ
status_without_words OutOfMemory = code_of NoMemory
status_without_words _ = no_words

-- a run came to an end, and this is the status of its end
abbrev pub HasRun : Call → ℕ → Type 0
HasRun call status = (outcome : Outcome) × OutcomeMeans call outcome × (status ≡ code_of outcome)

-- the words were not given, so nothing was read and nothing written; this is the status for the error
abbrev pub HasNoWords : ErrorKind → ShelfState → ShelfState → SinkState → SinkState → ℕ → Type 0
HasNoWords kind shelf shelf' sink sink' status = (shelf' ≡ shelf) × (sink' ≡ sink) × (status ≡ status_without_words kind)

-- ---- the real files and the real output

-- files of which nothing is known, before a run
abbrev pub nothing_failed : ShelfState
nothing_failed = record { files = None; faults = 0; last = []; is_faithful = false }

-- an output of which nothing is known, before a run
abbrev pub nothing_written : SinkState
nothing_written = record { written = None; faults = 0 }

-- What the status of the program says. Either the words were not given, or it is the status of the end of a run over files and an output of
-- which nothing is known before it. It is not said which words the run had.
pub data EndsWith (status : ℕ) : Type 0 where
  without_words : status ≡ no_words → EndsWith status
  with_run : (words : List (List ℕ)) (shelf : ShelfState) (sink : SinkState) → HasRun (call_of words nothing_failed shelf nothing_written sink) status → EndsWith status
