-- Texts of reports, and the first wrong line of bytes that are no report's text.
use Rattle.std.specs.Prelude.{◌≡◌, ◌+◌, ◌<◌, ◌≤◌, ℕ, List, ◌++◌, count_by, take}
use Rattle.std.specs.List.{flat_map, slice_split}
use Rattle.line_words.specs.Lines.{ended, is_feed}
use Rattle.slack_report.specs.Entry.{Entry}
use Rattle.slack_report.specs.Order.{IsReport}
use Rattle.slack_report.specs.Text.{report_text}

-- the number of whole lines of a text. A line is whole if it has its line end
abbrev pub line_count : List ℕ → ℕ
line_count bytes = count_by is_feed bytes

-- the first `n` lines of a text that has at least `n` whole lines
abbrev pub first_lines : ℕ → List ℕ → List ℕ
first_lines n bytes = flat_map ended (take n (slice_split is_feed bytes))

-- the bytes are the text of a report
pub record IsReportText (bytes : List ℕ) : Type 0 where
  pub entries : List Entry
  pub report : IsReport entries
  pub text : bytes ≡ report_text entries

-- the bytes, with some more after them, are the text of a report
pub record BeginsReportText (bytes : List ℕ) : Type 0 where
  pub more : List ℕ
  pub whole : IsReportText (bytes ++ more)

-- The bytes are no report's text, and this line, counted from 1, is why. The lines before it begin a report. Either the line is whole and they begin
-- none with it, or the text ends before the line is whole.
pub record IsFirstWrongLine (bytes : List ℕ) (line : ℕ) : Type 0 where
  pub before : ℕ
  pub number : line ≡ before + 1
  pub is_there : before ≤ line_count bytes
  pub begins : BeginsReportText (first_lines before bytes)
  pub wrong : before < line_count bytes → BeginsReportText (first_lines (before + 1) bytes) → ⊥
  pub none : IsReportText bytes → ⊥
