-- What job self answers and writes.
use Rattle.std.specs.Prelude.{◌≡◌, ℕ, false, List, [], ◌∷◌, ◌++◌, length, codes}
use Rattle.std.specs.List.{flat_map}
use Rattle.itv_base.specs.Numerals.{number_text}
use Rattle.job_base.specs.declared.answer.Answer.{Answer}
use Rattle.line_words.specs.Lines.{ended, line_of}
use Rattle.line_words.specs.Words.{Word}
use Rattle.slack_report.specs.Entry.{Entry}
use Rattle.drawn_networks.specs.Drawn.{Drawn}
use Rattle.slack_report.specs.Text.{ending_word}
use Rattle.job_base.specs.Ending.{answer_of}
use Rattle.job_bounds.specs.Reports.{IsWrittenReport, Sums}
use Rattle.job_bounds.specs.declared.summary.Summary.{Summary}

-- the text of a line with some words
abbrev pub words_text : List Word → List ℕ
words_text words = ended (line_of words)

-- the words of the lines of numbers: the size, how many events, constraints and rows there are, and how many verdicts pass, fail and are undecided
abbrev pub number_lines : Drawn → ℕ → Summary → List (List Word)
number_lines drawn size summary =
    (codes "self" ∷ number_text size ∷ [])
    ∷ (codes "events" ∷ number_text drawn.net.events ∷ [])
    ∷ (codes "constraints" ∷ number_text (length drawn.net.constraints) ∷ [])
    ∷ (codes "rows" ∷ number_text (length drawn.rows) ∷ [])
    ∷ (codes "pass" ∷ number_text summary.passes ∷ [])
    ∷ (codes "fail" ∷ number_text summary.fails ∷ [])
    ∷ (codes "undecided" ∷ number_text summary.undecided ∷ [])
    ∷ []

-- the lines of numbers, and the line of the word at the end of the report
abbrev pub summary_text : Drawn → ℕ → Summary → List ℕ
summary_text drawn size summary = flat_map words_text (number_lines drawn size summary) ++ words_text (codes "end" ∷ ending_word summary.end ∷ [])

-- a report that a budget allows, without lines of proofs, has a summary
pub record ComesTo (drawn : Drawn) (most : ℕ) (summary : Summary) : Type 0 where
  pub lines : List Entry
  pub is_written : IsWrittenReport drawn most false lines
  pub sums : Sums summary lines

-- what the job answers and writes: the summary of such a report; the end of the report gives the answer
pub record AnswersSummary (drawn : Drawn) (size most : ℕ) (answer : Answer) (text : List ℕ) : Type 0 where
  pub summary : Summary
  pub comes : ComesTo drawn most summary
  pub is_answer : answer ≡ answer_of summary.end
  pub is_text : text ≡ summary_text drawn size summary
