-- The text of job measure.
use Rattle.std.specs.Prelude.{◌+◌, ◌==◌, ℕ, int_lt, Bool, not, if◌then◌else◌, List, [], ◌∷◌, ◌++◌, codes, count_by, Option, Some, None}
use Rattle.std.specs.List.{flat_map}
use Rattle.std.specs.Option.{option_map_or}
use Rattle.itv_base.specs.Names.{Name}
use Rattle.itv_base.specs.Numerals.{end_text, number_text, signed_text}
use Rattle.line_words.specs.Lines.{spaced}
use Rattle.line_words.specs.Words.{Word}
use Rattle.slack_report.specs.Text.{name_word}
use Rattle.measured_times.specs.Runs.{MeasuredRun}
use Rattle.job_measure.specs.declared.spare.TheConstants.{FAR}
use Rattle.job_measure.specs.declared.tally.Found.{Found}
use Rattle.job_measure.specs.declared.tally.RunTally.{RunTally}
use Rattle.job_measure.specs.declared.tally.RunVerdict.{RunVerdict}
use Rattle.job_measure.specs.declared.tally.RunVerdict.TheVariants.{Fail, Near, Pass, Unseen}
use Rattle.job_measure.specs.Tally.{verdict_of}
use Rattle.job_measure.specs.Looks.{was_seen}
use Rattle.job_measure.specs.Lines.{RunLine}

-- ---- a line

-- a word, and a number with the run that shows it, if there is one
abbrev pub found_words : Word → Option Found → List Word
found_words key found = option_map_or (λ (f : Found). key ∷ signed_text f.value ∷ codes "run" ∷ number_text f.run ∷ []) found []

-- the spare, which is a star if there is no end that could be missed
abbrev pub slack_words : Option Found → List Word
slack_words found =
    option_map_or (λ (f : Found). codes "slack" ∷ end_text (if int_lt f.value FAR then Some f.value else None) ∷ codes "run" ∷ number_text f.run ∷ []) found []

abbrev pub verdict_word : RunVerdict → Word
verdict_word Pass = codes "pass"
verdict_word Near = codes "near"
verdict_word Fail = codes "fail"
verdict_word Unseen = codes "unseen"

abbrev pub separation_words : Bool → RunTally → List Word
separation_words has_separations t = if has_separations then found_words (codes "least") t.least ++ found_words (codes "greatest") t.greatest else []

abbrev pub judged_words : Bool → RunTally → List Word
judged_words is_judged t =
    if is_judged then codes "broken" ∷ number_text t.broken ∷ codes "near" ∷ number_text t.near ∷ (option_map_or (λ run. codes "first" ∷ number_text run ∷ []) t.first []
    ++ (slack_words t.slack ++ (verdict_word (verdict_of t) ∷ []))) else []

-- a line with its end
abbrev pub line_text : RunLine → List ℕ
line_text line =
    line.heading ++ (flat_map spaced (codes "runs" ∷ number_text line.tally.runs ∷ (separation_words line.has_separations line.tally ++ judged_words line.is_judged line.tally)) ++ codes "\n")

-- ---- events that were not seen

abbrev pub unseen_count : List MeasuredRun → ℕ → ℕ
unseen_count runs event = count_by (λ run. not (was_seen run (record { 0 = event }))) runs

abbrev pub unseen_line : Name → ℕ → List ℕ
unseen_line name count = if count == 0 then [] else codes "unseen" ++ (flat_map spaced (name_word name ∷ number_text count ∷ []) ++ codes "\n")

-- the lines of the events with these names, of which the first has this number
abbrev pub unseen_text : List MeasuredRun → ℕ → List Name → List ℕ
unseen_text runs event [] = []
unseen_text runs event (name ∷ names) = unseen_line name (unseen_count runs event) ++ unseen_text runs (event + 1) names
