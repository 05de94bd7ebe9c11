-- What the call of a page answers.
use Rattle.std.specs.Prelude.{◌≡◌, ◌≤◌, ◌<◌, ◌-◌, ◌^◌, ℕ, min, true, List, [], length, take, Some}
use Rattle.itv_base.specs.Outside.{Files, ShelfState, SinkState}
use Rattle.itv_cli.specs.declared.outcome.Outcome.{Outcome}
use Rattle.itv_cli.specs.Run.{Call, call_of, OutcomeMeans, Completes, RefusesWords, ShowsFaults}
use Rattle.itv_cli.specs.Status.{code_of}
use Rattle.web.specs.declared.TheConstants.{UNFIT, NO_ROOM}
use Rattle.web.specs.Given.{Given, words_in, files_in, IsFit}

-- a shelf with just these files, of which no fetch has failed
abbrev pub shelf_with : Files → ShelfState
shelf_with files = record { files = Some files; faults = 0; last = []; is_faithful = true }

-- a sink into which nothing was written, and of which no put has failed
abbrev pub empty_sink : SinkState
empty_sink = record { written = Some []; faults = 0 }

-- a run on the words over the files that a page hands over, from the states after it
abbrev pub run_on : Given → ShelfState → SinkState → Call
run_on given shelf sink = call_of (words_in given) (shelf_with (files_in given)) shelf empty_sink sink

-- all that the clauses of a run say of it
pub record ClausesHold (call : Call) (outcome : Outcome) : Type 0 where
  pub means : OutcomeMeans call outcome
  pub completes : Completes call outcome
  pub refuses_words : RefusesWords call outcome
  pub shows_faults : ShowsFaults call outcome

-- a run on what a page hands over had this outcome and wrote this text
pub record RunWrote (given : Given) (outcome : Outcome) (text : List ℕ) : Type 0 where
  pub shelf : ShelfState
  pub sink : SinkState
  pub wrote : sink.written ≡ Some text
  pub clauses : ClausesHold (run_on given shelf sink) outcome

-- how many bytes a call may write into its room: all of it, and no more than a number of 32 bits counts
abbrev pub usable : List ℕ → ℕ
usable out = min (length out) (2 ^ 32 - 1)

-- What the call answers: a status, how many bytes it wrote, and its room. Each case has a status of its own. Either a run had an outcome, and what it
-- wrote is at the front of the room. Or what was handed over is not fit, and nothing ran. Or a run wrote more than there is room for.
pub data IsAnswered (given : Given) (status wrote : ℕ) (out : List ℕ) : Type 0 where
  ran : IsFit given → (outcome : Outcome) → RunWrote given outcome (take wrote out) → wrote ≤ usable out → status ≡ code_of outcome → IsAnswered given status wrote out
  unfit : ¬ (IsFit given) → status ≡ UNFIT → wrote ≡ 0 → IsAnswered given status wrote out
  no_room : IsFit given → (outcome : Outcome) (text : List ℕ) → RunWrote given outcome text → usable out < length text → status ≡ NO_ROOM → wrote ≡ 0 → IsAnswered given status wrote out
