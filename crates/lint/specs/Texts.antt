-- What the texts of edges, and the keys of a drawing, may say otherwise than was meant. Parts, edges and keys are numbered from 0.
use Rattle.std.specs.Prelude.{ℕ, ◌+◌, ◌==◌, ◌&&◌, ◌||◌, nat_le, Bool, true, false, not, if◌then◌else◌, List, [], ◌∷◌, ◌++◌, length, map, codes, Some, unwrap_or, slice_index, Result, Ok, Err}
use Rattle.std.specs.Char.{is_ascii_alphabetic}
use Rattle.std.specs.List.{after_first, before_first, list_any, take_while}
use Rattle.std.specs.Str.{bytes_eq}
use Rattle.itv_base.specs.Cuts.{is_space, after_while}
use Rattle.label_grammar.specs.declared.label.LabelFault.{LabelFault}
use Rattle.label_grammar.specs.Label.{LooseLabel, fixed_ends}
use Rattle.label_grammar.specs.Reading.{ends_of, span_of, label_of}
use Rattle.label_grammar.specs.Answer.{judged_label}
use Rattle.label_grammar.specs.Edge.{EdgeSeen, edge_of}
use Rattle.label_grammar.specs.Edge as edges
use Rattle.label_grammar.specs.Wire.{WireSeen, wire_of}
use Rattle.label_grammar.specs.Wire as wires
use Rattle.origin.specs.declared.origin.Origin.TheVariants as drawn
use Rattle.sheet.specs.SheetContents.{SheetView}
use Rattle.compose.specs.Design.{DesignView}
use Rattle.json_tree.specs.declared.stray_key.StrayKey.{StrayKey}
use Rattle.design_plan.specs.Plan.{PlanView}
use Rattle.lint.specs.declared.warning.Warning.{Warning}
use Rattle.lint.specs.Kinds.{comment_at, word_at, note_at, near_key_at, stray_key_at}
use Rattle.lint.specs.Lists.{each_from, netlist_part, spot, warned}

-- ---- letters

-- a small letter for a capital letter of ASCII; any other byte stays
abbrev pub small : ℕ → ℕ
small byte = if nat_le 65 byte && nat_le byte 90 then byte + 32 else byte

-- two texts differ at most by capitals
abbrev pub same_letters : List ℕ → List ℕ → Bool
same_letters a b = bytes_eq (map small a) (map small b)

-- ---- comments with a sign of a label

-- `@` or an opening bracket
abbrev pub is_sign : ℕ → Bool
is_sign byte = byte == 64 || byte == 91

abbrev pub is_edge_comment : EdgeSeen → Bool
is_edge_comment edges.comment = true
is_edge_comment (edges.timing from to label) = false
is_edge_comment edges.malformed = false

abbrev pub is_wire_comment : WireSeen → Bool
is_wire_comment wires.comment = true
is_wire_comment (wires.timing from to label) = false
is_wire_comment wires.malformed = false

abbrev pub edge_comment : ℕ → ℕ → List ℕ → List Warning
edge_comment part n text = warned (is_edge_comment (edge_of text) && list_any is_sign text) (comment_at (spot part (drawn.Edge n)))

abbrev pub wire_comment : ℕ → List ℕ → List Warning
wire_comment n text = warned (is_wire_comment (wire_of text) && list_any is_sign text) (comment_at (spot netlist_part (drawn.Wire n)))

abbrev pub sheet_comments : ℕ → SheetView → List Warning
sheet_comments part sheet = each_from (edge_comment part) 0 sheet.edges

abbrev pub comment_warnings : PlanView → DesignView → List Warning
comment_warnings plan d = each_from sheet_comments 0 d.sheets ++ each_from wire_comment 0 plan.netlist.edges

-- ---- comments whose first word is a kind of a label, or nearly is one

-- the words of the kinds of labels
abbrev pub kind_words : List (List ℕ)
kind_words = codes "ask" ∷ codes "lin" ∷ codes "late" ∷ codes "early" ∷ codes "req" ∷ []

-- the word is the kind in any letters, or has one letter after it
abbrev pub is_nearly : List ℕ → List ℕ → Bool
is_nearly [] kind = nat_le (length kind) 0
is_nearly (a ∷ word) [] = nat_le (length word) 0
is_nearly (a ∷ word) (b ∷ kind) = small a == small b && is_nearly word kind

-- the letters that a text begins with, after spaces
abbrev pub first_word : List ℕ → List ℕ
first_word text = take_while is_ascii_alphabetic (after_while is_space text)

abbrev pub begins_with_kind : List ℕ → Bool
begins_with_kind text = list_any (is_nearly (first_word text)) kind_words

-- a comment without a sign of a label whose first word is nearly a kind; the word stands after the shape word
abbrev pub edge_word : ℕ → ℕ → List ℕ → List Warning
edge_word part n text =
    warned (is_edge_comment (edge_of text) && (not (list_any is_sign text) && begins_with_kind (after_first is_space text))) (word_at (spot part (drawn.Edge n)))

-- the word stands after the two marks of the wire
abbrev pub wire_word : ℕ → List ℕ → List Warning
wire_word n text =
    warned (is_wire_comment (wire_of text) && (not (list_any is_sign text) && begins_with_kind (after_first is_space (after_first is_space text)))) (word_at (spot netlist_part (drawn.Wire n)))

abbrev pub sheet_words : ℕ → SheetView → List Warning
sheet_words part sheet = each_from (edge_word part) 0 sheet.edges

abbrev pub word_warnings : PlanView → DesignView → List Warning
word_warnings plan d = each_from sheet_words 0 d.sheets ++ each_from wire_word 0 plan.netlist.edges

-- ---- notes that look like what belongs before them

-- the note of a label that was read, byte by byte, whether it can be printed or not; an empty text where there is none
abbrev pub written_note : {E : Type 0} → Result (LooseLabel E) LabelFault → List ℕ
written_note (Ok label) = unwrap_or label.note []
written_note (Err fault) = []

-- the note of a label, in the version of the netlist
abbrev pub label_written : ℕ → List ℕ → List ℕ
label_written version label = if version == 2 then written_note (judged_label fixed_ends (label_of span_of label)) else written_note (judged_label (λ ends. Some ends) (label_of ends_of label))

abbrev pub edge_written : ℕ → EdgeSeen → List ℕ
edge_written version (edges.timing from to label) = label_written version label
edge_written version edge = []

-- a wire's label is always of version 1
abbrev pub wire_written : WireSeen → List ℕ
wire_written (wires.timing from to label) = label_written 1 label
wire_written wire = []

-- a space or an opening round bracket, which may stand before the first word of a note
abbrev pub is_before_word : ℕ → Bool
is_before_word byte = is_space byte || byte == 40

-- a space, a comma, a full stop, a semicolon, a colon or a closing round bracket, which ends the first word of a note
abbrev pub is_word_end : ℕ → Bool
is_word_end byte = is_space byte || (byte == 44 || (byte == 46 || (byte == 59 || (byte == 58 || byte == 41))))

-- the units of time, with the micro sign and with the Greek letter mu
abbrev pub units : List (List ℕ)
units =
    codes "fs" ∷ codes "ps" ∷ codes "ns" ∷ codes "us" ∷ codes "ms" ∷ codes "s" ∷ (194 ∷ 181 ∷ codes "s") ∷ (206 ∷ 188 ∷ codes "s")
    ∷ codes "fsec" ∷ codes "psec" ∷ codes "nsec" ∷ codes "usec" ∷ codes "msec" ∷ codes "sec" ∷ (194 ∷ 181 ∷ codes "sec") ∷ (206 ∷ 188 ∷ codes "sec") ∷ []

-- a unit of time in any letters
abbrev pub is_unit : List ℕ → Bool
is_unit word = list_any (same_letters word) units

-- a note from its first word on begins with a unit of time, or with an opening bracket
abbrev pub is_misplaced : List ℕ → Bool
is_misplaced note = is_unit (before_first is_word_end note) || slice_index note 0 == 91

abbrev pub edge_note_warning : ℕ → ℕ → ℕ → List ℕ → List Warning
edge_note_warning version part n text = warned (is_misplaced (after_while is_before_word (edge_written version (edge_of text)))) (note_at (spot part (drawn.Edge n)))

abbrev pub wire_note_warning : ℕ → List ℕ → List Warning
wire_note_warning n text = warned (is_misplaced (after_while is_before_word (wire_written (wire_of text)))) (note_at (spot netlist_part (drawn.Wire n)))

abbrev pub sheet_notes : ℕ → ℕ → SheetView → List Warning
sheet_notes version part sheet = each_from (edge_note_warning version part) 0 sheet.edges

abbrev pub note_warnings : PlanView → DesignView → List Warning
note_warnings plan d = each_from (sheet_notes plan.netlist.version) 0 d.sheets ++ each_from wire_note_warning 0 plan.netlist.edges

-- ---- keys of sheets that nearly are keys which are read, and keys of the netlist that are not known

abbrev pub sheet_key : ℕ → ℕ → List ℕ → List Warning
sheet_key part n key = near_key_at part n ∷ []

abbrev pub netlist_key : ℕ → StrayKey → List Warning
netlist_key n key = stray_key_at n ∷ []

abbrev pub sheet_key_warnings : ℕ → SheetView → List Warning
sheet_key_warnings part sheet = each_from (sheet_key part) 0 sheet.near

abbrev pub key_warnings : PlanView → DesignView → List Warning
key_warnings plan d = each_from sheet_key_warnings 0 d.sheets ++ each_from netlist_key 0 plan.netlist.stray

-- ---- all of them

abbrev pub text_warnings : PlanView → DesignView → List Warning
text_warnings plan d = comment_warnings plan d ++ (word_warnings plan d ++ (note_warnings plan d ++ key_warnings plan d))
