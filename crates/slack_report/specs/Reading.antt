-- Reading the words of a line, at the place where it stands.
use Rattle.std.specs.Prelude.{◌+◌, ◌-◌, ◌==◌, ◌&&◌, ◌||◌, not, nat_le, ℕ, zero, suc, ℤ, Bool, true, false, if◌then◌else◌, List, [], ◌∷◌, length, codes, Option, Some, None, option_map, Result, Ok, Err}
use Rattle.std.specs.Char.{is_ascii_digit}
use Rattle.std.specs.List.{slice_split, take_while}
use Rattle.itv_base.specs.Characters.{is_mark, is_name, is_name_byte}
use Rattle.itv_base.specs.Cuts.{after_while, stripped}
use Rattle.itv_base.specs.Names.{Name}
use Rattle.itv_base.specs.Numerals.{number_text}
use Rattle.itv_base.specs.Range.{Ends, has_wide, is_reversed}
use Rattle.itv_base.specs.declared.limits.TheConstants.{MAX_BUDGET, MAX_CYCLES, MAX_EVENTS, MAX_ROWS}
use Rattle.certificate.specs.Reading.{proof_in}
use Rattle.line_words.specs.Lines.{is_feed}
use Rattle.line_words.specs.Numbers.{long_in, number_in, open_in}
use Rattle.line_words.specs.Words.{◌>>=◌, Word, is_word, keyed, many, one, or_else, split_words, two, when}
use Rattle.requirements.specs.declared.bound.Bound.{Bound}
use Rattle.requirements.specs.declared.bound.Bound.TheVariants as bounds
use Rattle.requirements.specs.declared.verdict.Verdict.{Verdict}
use Rattle.requirements.specs.declared.verdict.Verdict.TheVariants as verdicts
use Rattle.itv_base.specs.declared.row_kind.RowKind.{RowKind}
use Rattle.itv_base.specs.declared.row_kind.RowKind.TheVariants as kinds
use Rattle.slack_report.specs.declared.words.EndWord.{EndWord}
use Rattle.slack_report.specs.declared.words.EndWord.TheVariants as endings
use Rattle.requirements.specs.declared.consistency.Consistency.{Consistency}
use Rattle.requirements.specs.declared.consistency.Consistency.TheVariants as findings
use Rattle.slack_report.specs.declared.place.Place.{Place}
use Rattle.slack_report.specs.declared.place.Place.TheVariants as at
use Rattle.slack_report.specs.Entry.{Entry, heading, budget, events, event, proof, finding, times, rows, row, bound, raise, verdict, slack, ending}
use Rattle.slack_report.specs.Order.{next}
use Rattle.slack_report.specs.Text.{which_word}

-- ---- words

abbrev pub budget_from : ℕ → Option ℕ
budget_from most = when (nat_le 1 most) (Some most)

abbrev pub budget_in : Word → Option ℕ
budget_in word = number_in MAX_BUDGET word >>= budget_from

-- a mark, `@` and a cycle
abbrev pub mark_in : List ℕ → List ℕ → Option Name
mark_in part [] = None
mark_in part (mark ∷ rest) = when (is_mark mark) (stripped (codes "@") rest >>= λ digits. number_in (MAX_CYCLES - 1) digits >>= λ cycle. Some (record { part = part; mark = mark; cycle = cycle }))

unfoldable pub name_in : Word → Option Name
name_in word = when (is_name (take_while is_name_byte word)) (stripped (codes ".") (after_while is_name_byte word) >>= mark_in (take_while is_name_byte word))

-- the bytes of a range's end: digits, `-` and `*`
abbrev pub is_end_byte : ℕ → Bool
is_end_byte b = is_ascii_digit b || (b == 45 || b == 42)

abbrev pub range_from : Option ℤ → Option ℤ → Option Ends
range_from low high = when (not (has_wide (record { low = low; high = high })) && not (is_reversed (record { low = low; high = high }))) (Some (record { low = low; high = high }))

unfoldable pub range_in : Word → Option Ends
range_in word = do
  opened ← stripped (codes "[") word
  low ← open_in (take_while is_end_byte opened)
  parted ← stripped (codes ",") (after_while is_end_byte opened)
  high ← open_in (take_while is_end_byte parted)
  when (is_word (after_while is_end_byte parted) (codes "]")) (range_from low high)

abbrev pub finding_in : Word → Option Consistency
finding_in word =
    if is_word word (codes "consistent") then Some findings.Consistent else (if is_word word (codes "inconsistent") then Some findings.Inconsistent else when (is_word word (codes "unsettled")) (Some findings.Open))

abbrev pub ending_in : Word → Option EndWord
ending_in word =
    if is_word word (codes "pass") then Some endings.Pass else (if is_word word (codes "fail") then Some endings.Fail else (if is_word word (codes "inconsistent") then Some endings.Inconsistent else when (is_word word (codes "undecided")) (Some endings.Undecided)))

-- ---- lines

-- a number, or the word `unbounded`
abbrev pub lone_bound : Word → Option Bound
lone_bound word = or_else (option_map bounds.Closed (long_in word)) (when (is_word word (codes "unbounded")) (Some bounds.Unbounded))

-- a limit, with nothing attained
abbrev pub limit_in : Word → Word → Option Bound
limit_in word limit = when (is_word word (codes "within")) (option_map (λ most. bounds.Within most None) (open_in limit))

-- a limit and what was attained
abbrev pub found_in : Word → Word → Word → Word → Option Bound
found_in word limit mid value =
    when (is_word word (codes "within") && is_word mid (codes "found")) (open_in limit >>= λ most. long_in value >>= λ found. Some (bounds.Within most (Some found)))

unfoldable pub bound_in : List Word → Option Bound
bound_in [] = None
bound_in (word ∷ []) = lone_bound word
bound_in (word ∷ limit ∷ []) = limit_in word limit
bound_in (word ∷ limit ∷ mid ∷ []) = None
bound_in (word ∷ limit ∷ mid ∷ value ∷ []) = found_in word limit mid value
bound_in (word ∷ limit ∷ mid ∷ value ∷ other ∷ words) = None

abbrev pub lone_verdict : Word → Option Verdict
lone_verdict word = if is_word word (codes "pass") then Some verdicts.Pass else when (is_word word (codes "undecided")) (Some verdicts.Undecided)

-- a failed verdict, with its side
abbrev pub fail_in : Word → Word → Option Verdict
fail_in word side = when (is_word word (codes "fail")) (if is_word side (codes "high") then Some verdicts.FailHigh else when (is_word side (codes "low")) (Some verdicts.FailLow))

unfoldable pub verdict_in : List Word → Option Verdict
verdict_in [] = None
verdict_in (word ∷ []) = lone_verdict word
verdict_in (word ∷ side ∷ []) = fail_in word side
verdict_in (word ∷ side ∷ other ∷ words) = None

-- a number for each event
abbrev pub times_in : ℕ → List Word → Option (List ℤ)
times_in count words = when (length words == count) (many long_in words)

-- The flags of this many events from a number on. The words are the numbers of the events in the set.
abbrev pub flags_in : ℕ → ℕ → List Word → Option (List Bool)
flags_in zero number [] = Some []
flags_in zero number (word ∷ words) = None
flags_in (suc left) number [] = option_map (λ set. false ∷ set) (flags_in left (number + 1) [])
flags_in (suc left) number (word ∷ words) =
    if is_word word (number_text number) then option_map (λ set. true ∷ set) (flags_in left (number + 1) words) else option_map (λ set. false ∷ set) (flags_in left (number + 1) (word ∷ words))

-- the two names and the range of a requirement
abbrev pub demand_in : List Word → Option (RowKind × Name × Name)
demand_in [] = None
demand_in (from ∷ words) = name_in from >>= λ x. two name_in range_in words >>= λ y. Some (kinds.Req y.1, x, y.0)

abbrev pub ask_in : List Word → Option (RowKind × Name × Name)
ask_in words = option_map (λ x. (kinds.Ask, x.0, x.1)) (two name_in name_in words)

-- what a row asks
unfoldable pub row_in : List Word → Option (RowKind × Name × Name)
row_in words = or_else (keyed (codes "ask") ask_in words) (keyed (codes "req") demand_in words)

abbrev pub heading_in : Word → Option Entry
heading_in word = when (is_word word (codes "1")) (Some heading)

-- the line that the words are at this place, or none if no such line may stand there
unfoldable pub entry_at : Place → List Word → Option Entry
entry_at at.Heading words = keyed (codes "itv") (keyed (codes "report") (one heading_in)) words
entry_at at.Budget words = option_map budget (keyed (codes "budget") (one budget_in) words)
entry_at at.Events words = option_map events (keyed (codes "events") (one (number_in MAX_EVENTS)) words)
entry_at (at.Event count number more) words = option_map (event number) (keyed (codes "event") (keyed (number_text number) (one name_in)) words)
entry_at (at.Finding count) words = or_else (option_map proof (proof_in words)) (option_map finding (keyed (codes "finding") (one finding_in) words))
entry_at (at.FoundTimes count) words = option_map times (keyed (codes "times") (times_in count) words)
entry_at (at.Rows count) words = option_map rows (keyed (codes "rows") (one (number_in MAX_ROWS)) words)
entry_at (at.Row count number more) words = option_map (λ x. row number x.0 x.1 x.2) (keyed (codes "row") (keyed (number_text number) row_in) words)
entry_at (at.Bound spot which) words = or_else (option_map proof (proof_in words)) (option_map (bound which) (keyed (which_word which) bound_in words))
entry_at (at.Times spot which raises) words = option_map times (keyed (codes "times") (times_in spot.events) words)
entry_at (at.Raise spot which) words = option_map raise (keyed (codes "raise") (flags_in spot.events 0) words)
entry_at (at.Verdict spot) words = option_map verdict (keyed (codes "verdict") verdict_in words)
entry_at (at.FailTimes spot) words = option_map times (keyed (codes "times") (times_in spot.events) words)
entry_at (at.Slack spot) words = option_map (λ x. slack (record { low = x.0; high = x.1 })) (keyed (codes "slack") (two open_in open_in) words)
entry_at at.End words = option_map ending (keyed (codes "end") (one ending_in) words)
entry_at at.Nothing words = None

-- a line with the place after it, or none if the line may not stand at this place
abbrev pub with_place : Place → Option Entry → Option (Entry × Place)
with_place place found = do
  entry ← found
  behind ← next place entry
  Some (entry, behind)

abbrev pub step_at : Place → List Word → Option (Entry × Place)
step_at place words = with_place place (entry_at place words)

-- ---- lines one after another

abbrev pub is_nothing : Place → Bool
is_nothing at.Nothing = true
is_nothing place = false

-- the lines that were read, or how many lines stand before the first wrong one
abbrev pub Read : Type 0
Read = Result (List Entry) ℕ

abbrev pub with_line : Entry → Read → Read
with_line entry (Ok entries) = Ok (entry ∷ entries)
with_line entry (Err before) = Err (suc before)

-- reads the last part of a text: the report has ended, and nothing stands after its last line end
abbrev pub last_in : Place → List ℕ → Read
last_in place rest = if is_nothing place && length rest == 0 then Ok [] else Err 0

abbrev pub behind_line : Option (Entry × Place) → (Place → Read) → Read
behind_line None lines = Err 0
behind_line (Some step) lines = with_line step.0 (lines step.1)

-- reads the parts of a text between its line ends, from a place on
unfoldable pub lines_in : Place → List (List ℕ) → Read
lines_in place [] = Err 0
lines_in place (last ∷ []) = last_in place last
lines_in place (line ∷ more ∷ lines) = behind_line (step_at place (split_words line)) (λ behind. lines_in behind (more ∷ lines))

-- reads a text as a report
abbrev pub report_in : List ℕ → Read
report_in bytes = lines_in at.Heading (slice_split is_feed bytes)
