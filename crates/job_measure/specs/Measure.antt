-- What job measure answers and writes.
use Rattle.std.specs.Prelude.{◌≡◌, ℕ, Bool, true, false, not, ◌&&◌, if◌then◌else◌, List, ◌++◌, codes, length}
use Rattle.std.specs.List.{flat_map, list_any}
use Rattle.itv_base.specs.Numerals.{number_text}
use Rattle.line_words.specs.Lines.{spaced}
use Rattle.drawn_networks.specs.Drawn.{Drawn}
use Rattle.job_base.specs.declared.answer.Answer.{Answer}
use Rattle.job_base.specs.declared.answer.Answer.TheVariants.{AllPass, SomeFail, Undecided}
use Rattle.measured_times.specs.Runs.{MeasuredRun}
use Rattle.job_measure.specs.declared.tally.RunVerdict.{RunVerdict}
use Rattle.job_measure.specs.declared.tally.RunVerdict.TheVariants.{Fail, Near, Pass, Unseen}
use Rattle.job_measure.specs.Lines.{RunLine, lines_of}
use Rattle.job_measure.specs.Tally.{verdict_of}
use Rattle.job_measure.specs.Text.{line_text, unseen_text, verdict_word}

-- which verdicts end with a fail, and which with a pass
abbrev pub is_failing : RunVerdict → Bool
is_failing Fail = true
is_failing verdict = false

abbrev pub is_passing : RunVerdict → Bool
is_passing Pass = true
is_passing verdict = false

-- a line that is judged, and broken; and one that is judged, and does not pass
abbrev pub fails : RunLine → Bool
fails line = line.is_judged && is_failing (verdict_of line.tally)

abbrev pub falls_short : RunLine → Bool
falls_short line = line.is_judged && not (is_passing (verdict_of line.tally))

-- the verdict on all: a fail if some rule or requirement is broken, and a pass if each passes
abbrev pub all_verdict : List RunLine → RunVerdict
all_verdict lines =
    if list_any fails lines then Fail else (if list_any falls_short lines then Near else Pass)

abbrev pub answer_by : RunVerdict → Answer
answer_by Fail = SomeFail
answer_by Pass = AllPass
answer_by Near = Undecided
answer_by Unseen = Undecided

-- the heading, the tolerance and the number of runs
abbrev pub head_text : ℕ → ℕ → List ℕ
head_text within count = codes "itv measure 1\nwithin" ++ (spaced (number_text within) ++ (codes "\nruns" ++ (spaced (number_text count) ++ codes "\n")))

abbrev pub ending_text : RunVerdict → List ℕ
ending_text verdict = codes "end" ++ (spaced (verdict_word verdict) ++ codes "\n")

abbrev pub measure_text : Drawn → ℕ → List MeasuredRun → List RunLine → List ℕ
measure_text drawn within runs lines =
    head_text within (length runs) ++ (flat_map line_text lines ++ (unseen_text runs 0 drawn.names ++ ending_text (all_verdict lines)))

-- what the job answers and writes, given a tolerance and the runs
abbrev pub AnswersMeasure : Drawn → ℕ → List MeasuredRun → Answer → List ℕ → Type 0
AnswersMeasure drawn within runs answer text =
    (answer ≡ answer_by (all_verdict (lines_of drawn within runs))) × (text ≡ measure_text drawn within runs (lines_of drawn within runs))
