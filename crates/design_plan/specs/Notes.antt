-- The notes of edges and of wires, and the names of nets, as they are printed. A note is what a label says in plain words after everything
-- else. Parts, edges, wires and nets are numbered from 0.
use Rattle.std.specs.Prelude.{ℕ, Bool, ◌&&◌, ◌==◌, nat_le, if◌then◌else◌, List, [], ◌∷◌, Option, Some, None, find, option_and_then, unwrap_or, slice_get, Result, Ok, Err}
use Rattle.std.specs.List.{list_all}
use Rattle.std.specs.Option.{option_map_or}
use Rattle.std.specs.Str.{bytes_eq}
use Rattle.label_grammar.specs.declared.label.LabelFault.{LabelFault}
use Rattle.label_grammar.specs.Label.{LooseLabel, Span, fixed, named, fixed_ends}
use Rattle.label_grammar.specs.Reading.{ends_of, span_of, label_of}
use Rattle.label_grammar.specs.Answer.{judged_label}
use Rattle.label_grammar.specs.Edge.{EdgeSeen, edge_of}
use Rattle.label_grammar.specs.Edge as edges
use Rattle.label_grammar.specs.Wire.{WireSeen, wire_of}
use Rattle.label_grammar.specs.Wire as wires
use Rattle.origin.specs.NotesKept.{NotesKept}
use Rattle.origin.specs.declared.origin.Origin.{Origin}
use Rattle.origin.specs.declared.origin.Origin.TheVariants.{Lane, Edge, Pin, Wire}
use Rattle.netlist.specs.declared.part.Part.{Part}
use Rattle.netlist.specs.NetlistContents.{PinNetView}
use Rattle.sheet.specs.SheetContents.{SheetView}
use Rattle.compose.specs.Sheets.{key_of}
use Rattle.design_plan.specs.Plan.{PlanView, sheet_among}

-- ---- labels

-- a visible character of ASCII, or a space
abbrev pub is_printed_byte : ℕ → Bool
is_printed_byte byte = nat_le 32 byte && nat_le byte 126

-- all bytes are visible characters of ASCII or spaces
abbrev pub is_printed : List ℕ → Bool
is_printed text = list_all is_printed_byte text

-- a note that can be printed; an empty text for a note that can't be printed, and for no note
abbrev pub printed_note : Option (List ℕ) → List ℕ
printed_note note = if is_printed (unwrap_or note []) then unwrap_or note [] else []

-- the note of a label that was read, or an empty text; a note that can't be printed is left out
abbrev pub note_by : {E : Type 0} → Result (LooseLabel E) LabelFault → List ℕ
note_by (Ok label) = printed_note label.note
note_by (Err fault) = []

-- the note of a label, in the version of the netlist
abbrev pub label_note : ℕ → List ℕ → List ℕ
label_note version label = if version == 2 then note_by (judged_label fixed_ends (label_of span_of label)) else note_by (judged_label (λ ends. Some ends) (label_of ends_of label))

-- a text, or another one where it is empty
abbrev pub text_or : List ℕ → List ℕ → List ℕ
text_or [] other = other
text_or (b ∷ text) other = b ∷ text

-- a note as it is printed, or where that is empty the name of the parameter that stands for the ends, if one does
abbrev pub titled : List ℕ → Option Span → List ℕ
titled note None = note
titled note (Some (fixed ends)) = note
titled note (Some (named name)) = text_or note (printed_note (Some name))

-- the note of a label of version 2 that was read, or the name of its parameter where the note is empty or can't be printed
abbrev pub title_by : Result (LooseLabel Span) LabelFault → List ℕ
title_by (Ok label) = titled (printed_note label.note) label.ends
title_by (Err fault) = []

-- what a label is called, in the version of the netlist: its note or, where that is empty, the name of its parameter
abbrev pub label_title : ℕ → List ℕ → List ℕ
label_title version label =
    if version == 2 then title_by (judged_label fixed_ends (label_of span_of label)) else note_by (judged_label (λ ends. Some ends) (label_of ends_of label))

-- ---- edges and wires

abbrev pub edge_seen_note : ℕ → EdgeSeen → List ℕ
edge_seen_note version (edges.timing from to label) = label_note version label
edge_seen_note version edge = []

-- the note of the text of an edge of a sheet; a comment has none
abbrev pub edge_note : ℕ → List ℕ → List ℕ
edge_note version text = edge_seen_note version (edge_of text)

abbrev pub edge_seen_title : ℕ → EdgeSeen → List ℕ
edge_seen_title version (edges.timing from to label) = label_title version label
edge_seen_title version edge = []

-- what the text of an edge of a sheet is called: its note or, where that is empty, the name of its parameter; a comment has neither
abbrev pub edge_title : ℕ → List ℕ → List ℕ
edge_title version text = edge_seen_title version (edge_of text)

abbrev pub wire_seen_note : WireSeen → List ℕ
wire_seen_note (wires.timing from to label) = label_note 1 label
wire_seen_note wire = []

-- the note of the text of a wire, whose label is always of version 1; a comment has none
abbrev pub wire_note : List ℕ → List ℕ
wire_note text = wire_seen_note (wire_of text)

-- ---- plans

-- the text of an edge of the sheet of a part
abbrev pub edge_on : PlanView → Part → ℕ → Option (List ℕ)
edge_on plan part n = option_and_then (λ (sheet : SheetView). slice_get sheet.edges n) (sheet_among plan.sheets (key_of part))

-- the text of an edge of the sheet of the first part with a name
abbrev pub edge_named : PlanView → List ℕ → ℕ → Option (List ℕ)
edge_named plan name n = option_and_then (λ (part : Part). edge_on plan part n) (find (λ (part : Part). bytes_eq name part.name) plan.netlist.parts)

-- what an edge of a part is called, given the name of the part; empty if there is no such part or edge
abbrev pub part_note : PlanView → List ℕ → ℕ → List ℕ
part_note plan name n = option_map_or (edge_title plan.netlist.version) (edge_named plan name n) []

-- the name of a net, or an empty text; a name that can't be printed is left out
abbrev pub net_note : PinNetView → List ℕ
net_note net = printed_note net.name

-- The note of what draws a cause or a row, given the name of the part. An edge of its sheet without a note has the name of its parameter in place
-- of one, and a pin the name of its net. Lanes have no note.
abbrev pub plan_note : PlanView → List ℕ → Origin → List ℕ
plan_note plan part (Edge n) = part_note plan part n
plan_note plan part (Wire n) = option_map_or wire_note (slice_get plan.netlist.edges n) []
plan_note plan part (Pin net pin) = option_map_or net_note (slice_get plan.netlist.nets net) []
plan_note plan part (Lane n) = []

-- the speed grade of the first part with a name, or an empty text
abbrev pub part_grade : PlanView → List ℕ → List ℕ
part_grade plan name = unwrap_or (option_and_then (λ (part : Part). part.grade) (find (λ (part : Part). bytes_eq name part.name) plan.netlist.parts)) []

-- the speed grade that an edge is drawn at, given the name of its part; what is drawn by the order of a lane or by the netlist has none
abbrev pub plan_grade : PlanView → List ℕ → Origin → List ℕ
plan_grade plan part (Edge n) = part_grade plan part
plan_grade plan part (Wire n) = []
plan_grade plan part (Pin net pin) = []
plan_grade plan part (Lane n) = []

-- the notes of a plan, and the speed grades of its parts
abbrev pub plan_notes : PlanView → NotesKept
plan_notes plan = record { note = plan_note plan; grade = plan_grade plan }
