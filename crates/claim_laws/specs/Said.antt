-- What may be relied on in the text of a report, row by row.
use Rattle.std.specs.Prelude.{◌≡◌, ◌&&◌, ℕ, ℤ, ◌≤ℤ◌, Bool, false, if◌then◌else◌, List, [], ◌∷◌, Option, Some, None, IfSome, slice_get, codes}
use Rattle.std.specs.List.{flat_map}
use Rattle.std.specs.Str.{bytes_eq}
use Rattle.itv_base.specs.Numerals.{number_text}
use Rattle.itv_base.specs.Range.{Ends}
use Rattle.itv_base.specs.declared.row_kind.RowKind.TheVariants as kinds
use Rattle.event_graph.specs.Bounds.{IsGreatest, IsLeast, IsUnbounded}
use Rattle.event_graph.specs.Network.{Net}
use Rattle.event_graph.specs.Satisfying.{Satisfies}
use Rattle.event_graph.specs.Times.{separation}
use Rattle.line_words.specs.Lines.{ended, line_of}
use Rattle.line_words.specs.Words.{Word}
use Rattle.requirements.specs.Bounds.{IsAttained}
use Rattle.requirements.specs.Laws.{IsBrokenHigh, IsBrokenLow, IsMet}
use Rattle.requirements.specs.declared.bound.Bound.{Bound}
use Rattle.requirements.specs.declared.bound.Bound.TheVariants.{Closed, Unbounded, Within}
use Rattle.requirements.specs.declared.verdict.Verdict.{Verdict}
use Rattle.requirements.specs.declared.verdict.Verdict.TheVariants.{Pass, FailHigh, FailLow, Undecided}
use Rattle.slack_report.specs.Text.{bound_words, verdict_words}
use Rattle.drawn_networks.specs.Drawn.{Drawn}
use Rattle.drawn_networks.specs.declared.row.Row.{Row}

-- ---- lines

-- a line begins with a word
abbrev pub begins : Word → List Word → Bool
begins word [] = false
begins word (first ∷ words) = bytes_eq first word

-- the line begins the row with a number
abbrev pub begins_row : ℕ → List Word → Bool
begins_row number [] = false
begins_row number (first ∷ words) = bytes_eq first (codes "row") && begins (number_text number) words

-- the lines after the line that begins the row with a number
abbrev pub lines_behind : ℕ → List (List Word) → List (List Word)
lines_behind number [] = []
lines_behind number (line ∷ lines) = if begins_row number line then lines else lines_behind number lines

-- the first line that begins with a word, up to the next row
abbrev pub first_line : Word → List (List Word) → Option (List Word)
first_line word [] = None
first_line word (line ∷ lines) = if begins word line then Some line else (if begins (codes "row") line then None else first_line word lines)

-- the first line of a row that begins with a word
abbrev pub line_on : List (List Word) → ℕ → Word → Option (List Word)
line_on lines number word = first_line word (lines_behind number lines)

-- ---- what a line says

-- `max V`: some satisfying times have the separation V, and none have a greater one. `unbounded`: satisfying separations exceed every number. `within L`: no
-- satisfying separation exceeds L, if L is a number; and with `found F` some satisfying times have the separation F.
abbrev pub IsSoMax : Net → Row → Bound → Type 0
IsSoMax net r (Closed value) = IsGreatest net r.from r.to value
IsSoMax net r Unbounded = IsUnbounded net r.from r.to
IsSoMax net r (Within limit found) =
    IfSome limit (λ most. (times : List ℤ) → Satisfies times net → separation times r.from r.to ≤ℤ most) × IfSome found (IsAttained net r.from r.to)

-- `min V` says the same of the least separation
abbrev pub IsSoMin : Net → Row → Bound → Type 0
IsSoMin net r (Closed value) = IsLeast net r.from r.to value
IsSoMin net r Unbounded = IsUnbounded net r.to r.from
IsSoMin net r (Within limit found) =
    IfSome limit (λ least. (times : List ℤ) → Satisfies times net → least ≤ℤ separation times r.from r.to) × IfSome found (IsAttained net r.from r.to)

-- `verdict pass`: all satisfying times meet the requirement of this range. `fail high`, `fail low`: some satisfying times are past its high end, or before its
-- low end. `undecided` says nothing.
abbrev pub IsSoVerdict : Net → Row → Ends → Verdict → Type 0
IsSoVerdict net r range Pass = IsMet net r.from r.to range
IsSoVerdict net r range FailHigh = IsBrokenHigh net r.from r.to range
IsSoVerdict net r range FailLow = IsBrokenLow net r.from r.to range
IsSoVerdict net r range Undecided = Unit {0}

-- The bytes are lines of words. Each row has a line `max` and a line `min`, and a row with a requirement has a verdict. What these lines say is so.
pub record IsSoText (drawn : Drawn) (bytes : List ℕ) : Type 0 where
  pub lines : List (List Word)
  pub is_text : bytes ≡ flat_map (λ words. ended (line_of words)) lines
  pub greatest : (number : ℕ) (r : Row) → slice_get drawn.rows number ≡ Some r
      → (value : Bound) × (line_on lines number (codes "max") ≡ Some (codes "max" ∷ bound_words value)) × IsSoMax drawn.net r value
  pub least : (number : ℕ) (r : Row) → slice_get drawn.rows number ≡ Some r
      → (value : Bound) × (line_on lines number (codes "min") ≡ Some (codes "min" ∷ bound_words value)) × IsSoMin drawn.net r value
  pub verdict : (number : ℕ) (r : Row) (range : Ends) → slice_get drawn.rows number ≡ Some r → r.kind ≡ kinds.Req range
      → (word : Verdict) × (line_on lines number (codes "verdict") ≡ Some (codes "verdict" ∷ verdict_words word)) × IsSoVerdict drawn.net r range word
