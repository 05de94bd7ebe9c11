-- The text of a report: the words of each line, with a space between two words, and a line feed.
use Rattle.std.specs.Prelude.{ℕ, ◌+◌, Bool, if◌then◌else◌, List, [], ◌∷◌, ◌++◌, map, codes, Some, None}
use Rattle.std.specs.List.{flat_map}
use Rattle.itv_base.specs.Names.{Name}
use Rattle.itv_base.specs.Numerals.{end_text, number_text, signed_text}
use Rattle.itv_base.specs.Range.{Ends}
use Rattle.certificate.specs.Text.{proof_words}
use Rattle.line_words.specs.Words.{Word}
use Rattle.line_words.specs.Lines.{ended, line_of}
use Rattle.requirements.specs.declared.bound.Bound.{Bound}
use Rattle.requirements.specs.declared.bound.Bound.TheVariants as bounds
use Rattle.requirements.specs.declared.verdict.Verdict.{Verdict}
use Rattle.requirements.specs.declared.verdict.Verdict.TheVariants as verdicts
use Rattle.itv_base.specs.declared.row_kind.RowKind.{RowKind}
use Rattle.itv_base.specs.declared.row_kind.RowKind.TheVariants as kinds
use Rattle.slack_report.specs.declared.words.EndWord.{EndWord}
use Rattle.slack_report.specs.declared.words.EndWord.TheVariants as endings
use Rattle.requirements.specs.declared.consistency.Consistency.{Consistency}
use Rattle.requirements.specs.declared.consistency.Consistency.TheVariants as findings
use Rattle.slack_report.specs.declared.words.Which.{Which}
use Rattle.slack_report.specs.declared.words.Which.TheVariants as sorts
use Rattle.slack_report.specs.Entry.{Entry, heading, budget, events, event, proof, finding, times, rows, row, bound, raise, verdict, slack, ending}

-- a part, a full stop, a mark, `@` and a cycle
abbrev pub name_word : Name → Word
name_word name = name.part ++ (46 ∷ name.mark ∷ 64 ∷ number_text name.cycle)

-- the two ends in brackets, with a comma between them. An open end is a star
abbrev pub range_word : Ends → Word
range_word ends = 91 ∷ (end_text ends.low ++ (44 ∷ (end_text ends.high ++ (93 ∷ []))))

abbrev pub finding_word : Consistency → Word
finding_word findings.Consistent = codes "consistent"
finding_word findings.Inconsistent = codes "inconsistent"
finding_word findings.Open = codes "unsettled"

abbrev pub ending_word : EndWord → Word
ending_word endings.Pass = codes "pass"
ending_word endings.Fail = codes "fail"
ending_word endings.Inconsistent = codes "inconsistent"
ending_word endings.Undecided = codes "undecided"

abbrev pub which_word : Which → Word
which_word sorts.Max = codes "max"
which_word sorts.Min = codes "min"

abbrev pub bound_words : Bound → List Word
bound_words (bounds.Closed value) = signed_text value ∷ []
bound_words bounds.Unbounded = codes "unbounded" ∷ []
bound_words (bounds.Within limit None) = codes "within" ∷ end_text limit ∷ []
bound_words (bounds.Within limit (Some found)) = codes "within" ∷ end_text limit ∷ codes "found" ∷ signed_text found ∷ []

abbrev pub verdict_words : Verdict → List Word
verdict_words verdicts.Pass = codes "pass" ∷ []
verdict_words verdicts.FailHigh = codes "fail" ∷ codes "high" ∷ []
verdict_words verdicts.FailLow = codes "fail" ∷ codes "low" ∷ []
verdict_words verdicts.Undecided = codes "undecided" ∷ []

-- the numbers of the events in a set. The first flag is for the event with this number
abbrev pub members_from : ℕ → List Bool → List Word
members_from number [] = []
members_from number (is_in ∷ set) = if is_in then number_text number ∷ members_from (number + 1) set else members_from (number + 1) set

abbrev pub row_words : RowKind → Name → Name → List Word
row_words kinds.Ask from to = codes "ask" ∷ name_word from ∷ name_word to ∷ []
row_words (kinds.Req ends) from to = codes "req" ∷ name_word from ∷ name_word to ∷ range_word ends ∷ []

-- the words of a line
unfoldable pub words_of : Entry → List Word
words_of heading = codes "itv" ∷ codes "report" ∷ codes "1" ∷ []
words_of (budget most) = codes "budget" ∷ number_text most ∷ []
words_of (events number) = codes "events" ∷ number_text number ∷ []
words_of (event number name) = codes "event" ∷ number_text number ∷ name_word name ∷ []
words_of (proof line) = proof_words line
words_of (finding word) = codes "finding" ∷ finding_word word ∷ []
words_of (times list) = codes "times" ∷ map signed_text list
words_of (rows number) = codes "rows" ∷ number_text number ∷ []
words_of (row number kind from to) = codes "row" ∷ number_text number ∷ row_words kind from to
words_of (bound which value) = which_word which ∷ bound_words value
words_of (raise set) = codes "raise" ∷ members_from 0 set
words_of (verdict word) = codes "verdict" ∷ verdict_words word
words_of (slack value) = codes "slack" ∷ end_text value.low ∷ end_text value.high ∷ []
words_of (ending word) = codes "end" ∷ ending_word word ∷ []

-- a line without its end, and with it
abbrev pub entry_line : Entry → List ℕ
entry_line entry = line_of (words_of entry)

abbrev pub entry_text : Entry → List ℕ
entry_text entry = ended (entry_line entry)

-- the text of a report, or of some of its lines
abbrev pub report_text : List Entry → List ℕ
report_text entries = flat_map entry_text entries
