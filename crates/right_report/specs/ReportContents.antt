-- What a report says of the network and of each of its rows.
use Rattle.std.specs.Prelude.{◌==◌, ℕ, Bool, if◌then◌else◌, List, [], ◌∷◌, Option, Some, None}
use Rattle.requirements.specs.declared.bound.Bound.{Bound}
use Rattle.requirements.specs.declared.verdict.Verdict.{Verdict}
use Rattle.requirements.specs.declared.consistency.Consistency.{Consistency}
use Rattle.slack_report.specs.declared.words.EndWord.{EndWord}
use Rattle.slack_report.specs.declared.words.Which.{Which}
use Rattle.slack_report.specs.Entry.{Entry, bound, ending, finding, raise, row, verdict}
use Rattle.slack_report.specs.Order.{is_which}

-- the finding
abbrev pub finding_in : List Entry → Option Consistency
finding_in [] = None
finding_in (finding word ∷ lines) = Some word
finding_in (line ∷ lines) = finding_in lines

-- the word at the end
abbrev pub end_in : List Entry → Option EndWord
end_in [] = None
end_in (ending word ∷ lines) = Some word
end_in (line ∷ lines) = end_in lines

-- the lines after the first line of the row with this number
abbrev pub behind_row : ℕ → List Entry → List Entry
behind_row number [] = []
behind_row number (row other kind from to ∷ lines) = if other == number then lines else behind_row number lines
behind_row number (line ∷ lines) = behind_row number lines

-- the first verdict before the next row
abbrev pub first_verdict : List Entry → Option Verdict
first_verdict [] = None
first_verdict (verdict word ∷ lines) = Some word
first_verdict (row other kind from to ∷ lines) = None
first_verdict (line ∷ lines) = first_verdict lines

-- the first greatest or least bound before the next row
abbrev pub first_bound : Which → List Entry → Option Bound
first_bound which [] = None
first_bound which (bound other value ∷ lines) = if is_which other which then Some value else first_bound which lines
first_bound which (row other kind from to ∷ lines) = None
first_bound which (line ∷ lines) = first_bound which lines

-- the set of events in the lines before the next bound or row
abbrev pub set_behind : List Entry → Option (List Bool)
set_behind [] = None
set_behind (raise set ∷ lines) = Some set
set_behind (bound other value ∷ lines) = None
set_behind (row other kind from to ∷ lines) = None
set_behind (line ∷ lines) = set_behind lines

-- the set of events after the first greatest or least bound before the next row
abbrev pub first_set : Which → List Entry → Option (List Bool)
first_set which [] = None
first_set which (bound other value ∷ lines) = if is_which other which then set_behind lines else first_set which lines
first_set which (row other kind from to ∷ lines) = None
first_set which (line ∷ lines) = first_set which lines

-- the verdict on the row with this number
abbrev pub verdict_on : List Entry → ℕ → Option Verdict
verdict_on lines number = first_verdict (behind_row number lines)

-- the greatest or the least bound of the row with this number
abbrev pub bound_on : List Entry → ℕ → Which → Option Bound
bound_on lines number which = first_bound which (behind_row number lines)

-- the set of events after the greatest or the least bound of the row with this number; it shows that the bound is unbounded
abbrev pub set_on : List Entry → ℕ → Which → Option (List Bool)
set_on lines number which = first_set which (behind_row number lines)
