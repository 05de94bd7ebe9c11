-- Files of measured times: a line for each run, with a line end.
use Rattle.std.specs.Prelude.{◌≡◌, ◌+◌, ◌==◌, ℕ, ℤ, neg_ℤ, int_le, ◌&&◌, nat_lt, Bool, true, false, IsTrue, if◌then◌else◌, List, [], ◌∷◌, length, All, codes, Option, Some, None, Result, Ok, Err}
use Rattle.std.specs.List.{slice_split}
use Rattle.std.specs.Str.{is_utf8}
use Rattle.itv_base.specs.Reading as steps
use Rattle.line_words.specs.Lines.{is_feed}
use Rattle.line_words.specs.Numbers.{open_in}
use Rattle.line_words.specs.Words.{◌>>=◌, Word, keyed, many, split_words, when}
use Rattle.measured_times.specs.declared.fault.TimesFault.{TimesFault}
use Rattle.measured_times.specs.declared.fault.TimesFault.TheVariants.{Line, NoMemory, TooLong}
use Rattle.measured_times.specs.declared.file.TheConstants.{MAX_TIMES_BYTES}
use Rattle.measured_times.specs.declared.run.TheConstants.{MAX_TIME}

-- a run: the time of each event in order, and none for an event that was not seen
abbrev pub MeasuredRun : Type 0
MeasuredRun = List (Option ℤ)

-- a time is within its limit in absolute value
abbrev pub is_time_within : Option ℤ → Bool
is_time_within None = true
is_time_within (Some time) = int_le (neg_ℤ MAX_TIME) time && int_le time MAX_TIME

-- a run of a network with so many events
pub record IsRunFor (events : ℕ) (run : MeasuredRun) : Type 0 where
  pub count : length run ≡ events
  pub within : All (λ time. IsTrue (is_time_within time)) run

-- ---- its reading

-- a time within its limit, or a star
abbrev pub time_in : Word → Option (Option ℤ)
time_in word = open_in word >>= λ time. when (is_time_within time) (Some time)

-- the run that the words of a line are: a time or a star for each event, after the word `times`
abbrev pub run_in : ℕ → List Word → Option MeasuredRun
run_in events words = keyed (codes "times") (λ others. when (length others == events) (many time_in others)) words

abbrev pub run_judged : ℕ → Option MeasuredRun → Result MeasuredRun TimesFault
run_judged n None = Err (Line n)
run_judged n (Some run) = Ok run

-- the run of the line of a number, counted from 1; a line that is no text is not the text of a run
abbrev pub run_at : ℕ → ℕ → List ℕ → Result MeasuredRun TimesFault
run_at events n line = if is_utf8 line then run_judged n (run_in events (split_words line)) else Err (Line n)

-- the runs of a file that was cut at its line ends, from the line of a number on; bytes after the last line end are a line that is not the text of a run
abbrev pub runs_from : ℕ → ℕ → List (List ℕ) → Result (List MeasuredRun) TimesFault
runs_from events n [] = Ok []
runs_from events n (rest ∷ []) = if length rest == 0 then Ok [] else Err (Line n)
runs_from events n (line ∷ next ∷ lines) =
    steps.◌>>=◌ (run_at events n line) (λ first. steps.◌>>=◌ (runs_from events (n + 1) (next ∷ lines)) (λ others. Ok (first ∷ others)))

-- the runs of a file, or its first fault
abbrev pub runs_of : ℕ → List ℕ → Result (List MeasuredRun) TimesFault
runs_of events bytes = if nat_lt MAX_TIMES_BYTES (length bytes) then Err TooLong else runs_from events 1 (slice_split is_feed bytes)

-- memory ran out, which is no fault of the file
abbrev pub is_memory : TimesFault → Bool
is_memory TooLong = false
is_memory (Line n) = false
is_memory NoMemory = true
