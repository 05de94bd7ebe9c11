-- The netlist of a tree, or its first fault. Parts, nets and wires are numbered from 0.
use Rattle.std.specs.Prelude.{ℕ, ◌==◌, ◌&&◌, ◌||◌, nat_le, ℤ, pos, negsuc, Bool, true, false, if◌then◌else◌, List, [], ◌∷◌, ◌++◌, length, codes, Option, Some, None, ok_or, option_map, option_and_then, Result, Ok, Err, ⊤}
use Rattle.std.specs.List.{filter_map, list_any, before_first, after_first}
use Rattle.std.specs.Str.{bytes_eq}
use Rattle.serde_json.specs.Data.{Data}
use Rattle.serde_json.specs.Find.{get, as_object, as_str}
use Rattle.json_tree.specs.StrayKeys.{stray_in_netlist}
use Rattle.json_tree.specs.Words.{all_of, ends_by, list_at, list_of, name_of, text_at, whole_at}
use Rattle.itv_base.specs.Range.{Ends, has_wide, is_reversed}
use Rattle.itv_base.specs.declared.range.RangeFault.TheVariants.{TooWide, EmptyRange}
use Rattle.itv_base.specs.declared.limits.TheConstants.{MAX_CYCLES, MAX_PARTS, MAX_SHEET_NAMES}
use Rattle.label_grammar.specs.declared.label.LabelFault.{LabelFault}
use Rattle.label_grammar.specs.Answer.{judged_label}
use Rattle.itv_base.specs.Characters.{is_name}
use Rattle.itv_base.specs.Cuts.{is_full_stop}
use Rattle.label_grammar.specs.Label.{LooseLabel}
use Rattle.label_grammar.specs.Reading.{ends_of, label_of}
use Rattle.label_grammar.specs.Wire.{PartMark, WireSeen, comment, timing, malformed, wire_of}
use Rattle.netlist.specs.declared.fault.NetlistFault.{NetlistFault}
use Rattle.netlist.specs.declared.fault.NetlistFault.TheVariants.{NotObject, Version, Cycles, PartsNotList, TooManyParts, Part, DoublePart, TooManySheets, NetsNotList, Net, Delay, EdgesNotList, Edge, Label}
use Rattle.netlist.specs.declared.part.Part as code
use Rattle.netlist.specs.declared.pin.PinText.{PinText}
use Rattle.netlist.specs.declared.wire.Wire.{Wire}
use Rattle.netlist.specs.NetlistContents.{NetlistView, PinNetView}
use Rattle.itv_base.specs.Reading.{◌>>=◌, walk}

-- ---- what stands under a key

-- the list under a key that may be missing
abbrev pub list_if : Option Data → NetlistFault → Result (List Data) NetlistFault
list_if None fault = Ok []
list_if (Some d) fault = ok_or (list_of d) fault

-- no fault where a test is met, and otherwise this fault
abbrev pub demand : Bool → NetlistFault → Result ⊤ NetlistFault
demand true fault = Ok tt
demand false fault = Err fault

-- ---- the version and the number of cycles

-- the versions that are read
abbrev pub version_from : ℤ → Option ℕ
version_from (pos n) = if n == 1 || n == 2 then Some n else None
version_from (negsuc n) = None

unfoldable pub version_of : Data → Result ℕ NetlistFault
version_of tree = do
  _ ← ok_or (as_object tree) NotObject
  ok_or (option_and_then version_from (whole_at (codes "itv") tree)) Version

-- from 1 to the greatest number of cycles
abbrev pub cycles_from : ℤ → Option ℕ
cycles_from (pos n) = if nat_le 1 n && nat_le n MAX_CYCLES then Some n else None
cycles_from (negsuc n) = None

unfoldable pub cycles_of : Data → Result ℕ NetlistFault
cycles_of tree = ok_or (option_and_then cycles_from (whole_at (codes "cycles") tree)) Cycles

-- ---- parts

-- a name, if something stands there; nothing where it does not have the form of a name
abbrev pub name_if : Option Data → Option (Option (List ℕ))
name_if None = Some None
name_if (Some d) = option_map (λ name. Some name) (name_of d)

-- the grade of a part; in version 1 what stands under its key is ignored
abbrev pub grade_of : ℕ → Data → Option (Option (List ℕ))
grade_of version d = if version == 2 then name_if (get (codes "grade") d) else Some None

abbrev pub part_by : Option (List ℕ) → Option (List ℕ) → Option (Option (List ℕ)) → Option code.Part
part_by (Some name) (Some sheet) (Some grade) = if is_name name then Some (record { name = name; sheet = sheet; grade = grade }) else None
part_by name sheet grade = None

-- a part is an object with a name of a part's form, a text for its sheet and, in version 2, no grade or a grade of a name's form
unfoldable pub part_of : ℕ → Data → Option code.Part
part_of version d = part_by (text_at (codes "name") d) (text_at (codes "sheet") d) (grade_of version d)

-- a part before has the name
abbrev pub is_part : List code.Part → List ℕ → Bool
is_part parts name = list_any (λ (part : code.Part). bytes_eq name part.name) parts

abbrev pub with_part : ℕ → ℕ → List code.Part → Data → Result (List code.Part) NetlistFault
with_part version n done d = do
  part ← ok_or (part_of version d) (Part n)
  if is_part done part.name then Err (DoublePart n) else Ok (done ++ part ∷ [])

-- names with one more after them, if it is new
abbrev pub with_name : List (List ℕ) → List ℕ → List (List ℕ)
with_name names name = if list_any (bytes_eq name) names then names else names ++ name ∷ []

-- the distinct names of sheets in the order of first mention, after others
abbrev pub names_from : List (List ℕ) → List code.Part → List (List ℕ)
names_from names [] = names
names_from names (part ∷ parts) = names_from (with_name names part.sheet) parts

abbrev pub sheet_names : List code.Part → List (List ℕ)
sheet_names parts = names_from [] parts

unfoldable pub parts_of : ℕ → Data → Result (List code.Part) NetlistFault
parts_of version tree = do
  listed ← ok_or (list_at (codes "parts") tree) PartsNotList
  _ ← demand (nat_le (length listed) MAX_PARTS) (TooManyParts (length listed))
  parts ← walk (with_part version) 0 [] listed
  _ ← demand (nat_le (length (sheet_names parts)) MAX_SHEET_NAMES) (TooManySheets (length (sheet_names parts)))
  Ok parts

-- ---- nets

abbrev pub pin_by : List ℕ → List ℕ → Option PinText
pin_by part lane = if is_name part && nat_le 1 (length lane) then Some (record { part = part; lane = lane }) else None

-- a pin is a text that its first full stop cuts into the name of a part and a lane name that is not empty
unfoldable pub pin_of : List ℕ → Option PinText
pin_of text = pin_by (before_first is_full_stop text) (after_first is_full_stop text)

abbrev pub unless_empty : {X : Type 0} → List X → Option (List X)
unless_empty [] = None
unless_empty (x ∷ xs) = Some (x ∷ xs)

abbrev pub pin_at : Data → Option PinText
pin_at d = option_and_then pin_of (as_str d)

-- a list of at least one text, each of a pin's form
abbrev pub pins_of : Data → Option (List PinText)
pins_of d = option_and_then unless_empty (option_and_then (all_of pin_at) (list_at (codes "pins") d))

-- the two ends of a delay; a missing delay is 0
abbrev pub delay_of : Option Data → Option Ends
delay_of None = Some (record { low = Some (pos 0); high = Some (pos 0) })
delay_of (Some d) = option_and_then ends_by (list_of d)

-- the range of the ends of net n; an end beyond the limit is reported before ends that are the wrong way round
abbrev pub range_of : ℕ → Ends → Result Ends NetlistFault
range_of n ends = if has_wide ends then Err (Delay n TooWide) else (if is_reversed ends then Err (Delay n EmptyRange) else Ok ends)

-- the name, the pins and the delay of net n; a name that is no text counts as missing
unfoldable pub net_of : ℕ → Data → Result PinNetView NetlistFault
net_of n d = do
  pins ← ok_or (pins_of d) (Net n)
  ends ← ok_or (delay_of (get (codes "delay") d)) (Net n)
  delay ← range_of n ends
  Ok (record { name = text_at (codes "name") d; pins = pins; delay = delay })

abbrev pub with_net : ℕ → List PinNetView → Data → Result (List PinNetView) NetlistFault
with_net n done d = net_of n d >>= λ net. Ok (done ++ net ∷ [])

unfoldable pub nets_of : Data → Result (List PinNetView) NetlistFault
nets_of tree = list_if (get (codes "nets") tree) NetsNotList >>= walk with_net 0 []

-- ---- wires

abbrev pub labelled : ℕ → PartMark → PartMark → Result (LooseLabel Ends) LabelFault → Result (Option Wire) NetlistFault
labelled n from to (Err fault) = Err (Label n fault)
labelled n from to (Ok label) = Ok (Some (record {
  from_part = from.part;
  from_mark = from.mark;
  to_part = to.part;
  to_mark = to.mark;
  kind = label.kind;
  shift = label.shift;
  tag = label.tag;
  range = label.ends;
}))

abbrev pub seen_wire : ℕ → WireSeen → Result (Option Wire) NetlistFault
seen_wire n comment = Ok None
seen_wire n malformed = Err (Edge n)
seen_wire n (timing from to label) = labelled n from to (judged_label (λ ends. Some ends) (label_of ends_of label))

-- what the text of wire n says: nothing where it is a comment
abbrev pub wire_at : ℕ → Data → Result (Option Wire) NetlistFault
wire_at n d = ok_or (as_str d) (Edge n) >>= λ text. seen_wire n (wire_of text)

abbrev pub with_wire : ℕ → List (Option Wire) → Data → Result (List (Option Wire)) NetlistFault
with_wire n done d = wire_at n d >>= λ wire. Ok (done ++ wire ∷ [])

unfoldable pub wires_of : Data → Result (List (Option Wire)) NetlistFault
wires_of tree = list_if (get (codes "edges") tree) EdgesNotList >>= walk with_wire 0 []

-- the texts of the wires as they are written, comments among them
unfoldable pub edges_of : Data → Result (List (List ℕ)) NetlistFault
edges_of tree = list_if (get (codes "edges") tree) EdgesNotList >>= λ listed. Ok (filter_map as_str listed)

-- ---- the whole

-- The netlist of a tree, or its first fault. What stands under any other key of the tree, of a part or of a net is not read. Such keys are kept.
unfoldable pub netlist_of : Data → Result NetlistView NetlistFault
netlist_of tree = do
  version ← version_of tree
  cycles ← cycles_of tree
  parts ← parts_of version tree
  nets ← nets_of tree
  wires ← wires_of tree
  edges ← edges_of tree
  Ok (record { version = version; cycles = cycles; parts = parts; nets = nets; wires = wires; edges = edges; stray = stray_in_netlist tree })

-- the netlist that stands for the sheet of a name: one part in one cycle, of version 1; it has no keys
abbrev pub lone_netlist : List ℕ → NetlistView
lone_netlist sheet = record {
  version = 1;
  cycles = 1;
  parts = record { name = codes "U"; sheet = sheet; grade = None } ∷ [];
  nets = [];
  wires = [];
  edges = [];
  stray = [];
}
