-- How the text of a wire is cut.
use Rattle.std.specs.Prelude.{ℕ, ◌&&◌, ◌==◌, if◌then◌else◌, List, length, slice_index, Option, Some, None}
use Rattle.std.specs.List.{before_first, after_first}
use Rattle.label_grammar.specs.declared.wire.WireText.{WireText}
use Rattle.label_grammar.specs.declared.wire.WireText.TheVariants.{Comment, Timing, Malformed}
use Rattle.itv_base.specs.Characters.{is_name, is_mark}
use Rattle.itv_base.specs.Cuts.{is_space, is_full_stop}
use Rattle.label_grammar.specs.Label.{is_timing_label}

-- a mark of a part
pub record PartMark : Type 0 where
  pub part : List ℕ
  pub mark : ℕ

-- What a wire says, apart from where it lies in memory. A timing wire has the mark that it comes from, the mark that it goes to, and its label.
pub data WireSeen : Type 0 where
  comment : WireSeen
  timing : PartMark → PartMark → List ℕ → WireSeen
  malformed : WireSeen

-- what is read of a wire, apart from where it lies in memory
abbrev pub wire_view : WireText → WireSeen
wire_view Comment = comment
wire_view (Timing from_part from_mark to_part to_mark label) =
    timing (record { part = from_part.now; mark = from_mark }) (record { part = to_part.now; mark = to_mark }) label.now
wire_view Malformed = malformed

-- the name of a part and a text that is one mark
abbrev pub part_mark_from : List ℕ → List ℕ → Option PartMark
part_mark_from part mark =
    if is_name part && (length mark == 1 && is_mark (slice_index mark 0)) then Some (record { part = part; mark = slice_index mark 0 }) else None

-- A word is cut at its first full stop: a name has no full stop in it, and no mark is a full stop.
unfoldable pub part_mark_of : List ℕ → Option PartMark
part_mark_of word = part_mark_from (before_first is_full_stop word) (after_first is_full_stop word)

-- a wire from its two words; each word has to name a mark of a part
abbrev pub wire_between : Option PartMark → Option PartMark → List ℕ → WireSeen
wire_between (Some from) (Some to) label = timing from to label
wire_between from to label = malformed

-- a wire from its two words and its label
abbrev pub wire_from : List ℕ → List ℕ → List ℕ → WireSeen
wire_from from to label = if is_timing_label label then wire_between (part_mark_of from) (part_mark_of to) label else comment

-- The words stand before the first two spaces, and the label after them. Where there are not two spaces the label is empty.
unfoldable pub wire_of : List ℕ → WireSeen
wire_of text =
    let rest = after_first is_space text in
    wire_from (before_first is_space text) (before_first is_space rest) (after_first is_space rest)
