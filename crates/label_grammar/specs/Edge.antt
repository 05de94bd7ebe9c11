-- How the text of an edge is cut.
use Rattle.std.specs.Prelude.{ℕ, ◌-◌, ◌&&◌, nat_le, Bool, if◌then◌else◌, List, length, slice_index}
use Rattle.std.specs.List.{before_first, after_first}
use Rattle.label_grammar.specs.declared.edge.EdgeText.{EdgeText}
use Rattle.label_grammar.specs.declared.edge.EdgeText.TheVariants.{Comment, Timing, Malformed}
use Rattle.itv_base.specs.Characters.{is_mark}
use Rattle.itv_base.specs.Cuts.{is_space}
use Rattle.label_grammar.specs.Label.{is_timing_label}

-- What an edge says, apart from where it lies in memory. A timing edge has the mark that it comes from, the mark that it goes to, and its label.
pub data EdgeSeen : Type 0 where
  comment : EdgeSeen
  timing : ℕ → ℕ → List ℕ → EdgeSeen
  malformed : EdgeSeen

-- what is read of an edge, apart from where it lies in memory
abbrev pub edge_view : EdgeText → EdgeSeen
edge_view Comment = comment
edge_view (Timing from to label) = timing from to label.now
edge_view Malformed = malformed

-- the last byte of a word
abbrev pub last_byte : List ℕ → ℕ
last_byte word = slice_index word (length word - 1)

-- At least three characters, and the first and the last are marks. These two are ASCII, so three characters are a byte, at least one byte and a byte.
abbrev pub is_shape : List ℕ → Bool
is_shape word = nat_le 3 (length word) && (is_mark (slice_index word 0) && is_mark (last_byte word))

-- an edge from its shape word and its label
abbrev pub edge_from : List ℕ → List ℕ → EdgeSeen
edge_from word label =
    if is_timing_label label then (if is_shape word then timing (slice_index word 0) (last_byte word) label else malformed) else comment

-- The shape word stands before the first space, and the label after it. Where there is no space the label is empty.
unfoldable pub edge_of : List ℕ → EdgeSeen
edge_of text = edge_from (before_first is_space text) (after_first is_space text)
