-- The text of job margin.
use Rattle.std.specs.Prelude.{ℕ, Bool, true, false, List, [], ◌∷◌, ◌++◌, codes, zip}
use Rattle.std.specs.List.{flat_map, list_any}
use Rattle.std.specs.Option.{option_map_or}
use Rattle.itv_base.specs.Numerals.{number_text, signed_text}
use Rattle.origin.specs.declared.origin.Origin.TheVariants as origins
use Rattle.line_words.specs.Lines.{ended, line_of}
use Rattle.line_words.specs.Words.{Word}
use Rattle.origin.specs.NotesKept.{NotesKept}
use Rattle.slack_report.specs.declared.words.EndWord.{EndWord}
use Rattle.slack_report.specs.declared.words.EndWord.TheVariants.{Pass, Inconsistent, Undecided}
use Rattle.slack_report.specs.Entry.{ending}
use Rattle.slack_report.specs.Text.{entry_text, range_word}
use Rattle.job_why.specs.Text.{some_word}
use Rattle.drawn_numbers.specs.Numbers.{drawn_number_text}
use Rattle.drawn_numbers.specs.declared.drawn_number.DrawnNumber.{DrawnNumber}
use Rattle.drawn_numbers.specs.declared.drawn_number.DrawnNumber.TheVariants as numbers
use Rattle.moves.specs.declared.margin.Margin.{Margin}
use Rattle.moves.specs.declared.margin.Margin.TheVariants as margins
use Rattle.moves.specs.declared.number_seen.NumberSeen.{NumberSeen}
use Rattle.moves.specs.declared.span.SpanFound.{SpanFound}
use Rattle.job_margin.specs.declared.number_found.NumberFound.{NumberFound}

-- how far something may be moved, and which row breaks beyond
abbrev pub how_far : Margin → Word × List Word
how_far margins.Free = (codes "*", [])
how_far (margins.Until by row) = (signed_text by, codes "row" ∷ number_text row ∷ [])
how_far (margins.UntilContradiction by) = (signed_text by, [])
how_far margins.Never = (codes "none", [])
how_far margins.Limit = (codes "limit", [])
how_far margins.Spent = (codes "spent", [])

-- the note of what draws a number, or an empty text
abbrev pub number_note : NotesKept → DrawnNumber → List ℕ
number_note noted (numbers.Edge part edge) = noted.note part (origins.Edge edge)
number_note noted (numbers.Net net) = noted.note [] (origins.Pin net 0)
number_note noted (numbers.Wire wire) = noted.note [] (origins.Wire wire)

-- a line: which end or direction, how far, the number with its range as it is drawn, the row, and the note
abbrev pub margin_line : NotesKept → NumberSeen → Word × Margin → List ℕ
margin_line noted seen (which, margin) =
    ended (line_of (which ∷ (how_far margin).0 ∷ drawn_number_text seen.number ∷ range_word seen.range ∷ ((how_far margin).1 ++ some_word (number_note noted seen.number))))

-- the margins of a number, each with the word of its line
abbrev pub margins_of : NumberFound → List (Word × Margin)
margins_of found =
    option_map_or (λ margin. (codes "low", margin) ∷ []) found.ends.low [] ++ (option_map_or (λ margin. (codes "high", margin) ∷ []) found.ends.high []
    ++ option_map_or (λ (span : SpanFound). (codes "down", span.down) ∷ (codes "up", span.up) ∷ []) found.span [])

-- a search for a margin was left open
abbrev pub is_left_open : Margin → Bool
is_left_open margins.Spent = true
is_left_open margin = false

abbrev pub are_left_open : List NumberFound → Bool
are_left_open found = list_any (λ (f : NumberFound). list_any (λ (m : Word × Margin). is_left_open m.1) (margins_of f)) found

-- the finding, according to the word that the network as drawn would end with
abbrev pub finding_word : EndWord → Word
finding_word Inconsistent = codes "inconsistent"
finding_word Undecided = codes "spent"
finding_word word = codes "consistent"

-- the word at the end: undecided too where every requirement passes and a search for a margin was left open
abbrev pub end_of : EndWord → Bool → EndWord
end_of Pass true = Undecided
end_of word is_left = word

abbrev pub margin_text : NotesKept → EndWord → List NumberSeen → List NumberFound → List ℕ
margin_text noted word seen found =
    ended (codes "itv margin 1") ++ (ended (line_of (codes "finding" ∷ finding_word word ∷ []))
    ++ (flat_map (λ (both : NumberSeen × NumberFound). flat_map (margin_line noted both.0) (margins_of both.1)) (zip seen found) ++ entry_text (ending (end_of word (are_left_open found)))))
