-- The rules and rows of wires, or the first fault. Wires are numbered from 0, and comments are counted too.
use Rattle.std.specs.Prelude.{ℕ, ◌==◌, if◌then◌else◌, List, [], ◌∷◌, ◌++◌, Option, Some, None, position, ok_or, option_map, Result, Ok, Err}
use Rattle.itv_base.specs.Reading.{◌>>=◌, walk}
use Rattle.itv_base.specs.Range.{Ends}
use Rattle.label_grammar.specs.Label.{LooseLabel}
use Rattle.sheet.specs.declared.mark.Mark.{Mark}
use Rattle.sheet.specs.SheetContents.{SheetView}
use Rattle.sheet.specs.Links.{Link, is_full}
use Rattle.netlist.specs.declared.part.Part.{Part}
use Rattle.netlist.specs.declared.wire.Wire.{Wire}
use Rattle.origin.specs.declared.origin.Origin.TheVariants.{Wire as FromWire}
use Rattle.compose.specs.declared.fault.JoinFault.{JoinFault}
use Rattle.compose.specs.declared.fault.JoinFault.TheVariants.{WireNoPart, WireNoMark, TooManyCauses}
use Rattle.compose.specs.declared.mark.DesignMark.{DesignMark}
use Rattle.compose.specs.declared.wires.WireEnds.{WireEnds}
use Rattle.compose.specs.Nets.{marks_at, part_named}
use Rattle.compose.specs.Numbers.{number_of}

-- the mark of a part with a name
abbrev pub mark_named : List SheetView → ℕ → ℕ → Option DesignMark
mark_named sheets part name = option_map (λ mark. record { part = part; mark = mark }) (position (λ (mark : Mark). mark.name == name) (marks_at sheets part))

-- the marks that wire n joins, or its fault; a missing part comes before a missing mark
abbrev pub ends_of : List Part → List SheetView → ℕ → Wire → Result WireEnds JoinFault
ends_of parts sheets n wire = do
  from_part ← ok_or (part_named parts wire.from_part) (WireNoPart n)
  to_part ← ok_or (part_named parts wire.to_part) (WireNoPart n)
  from ← ok_or (mark_named sheets from_part wire.from_mark) (WireNoMark n)
  to ← ok_or (mark_named sheets to_part wire.to_mark) (WireNoMark n)
  Ok (record { from = from; to = to })

-- what the label of a wire says
abbrev pub wire_label : Wire → LooseLabel Ends
wire_label wire = record { kind = wire.kind; shift = wire.shift; tag = wire.tag; ends = wire.range; note = None }

-- wire n as a link between the numbers of its marks
abbrev pub wire_link : List SheetView → ℕ → Wire → WireEnds → Link
wire_link sheets n wire ends = record { from = number_of sheets ends.from; to = number_of sheets ends.to; origin = FromWire n; label = wire_label wire }

-- the links with wire n after them, or its fault; a comment adds no link
abbrev pub with_wire : List Part → List SheetView → ℕ → List Link → Option Wire → Result (List Link) JoinFault
with_wire parts sheets n done None = Ok done
with_wire parts sheets n done (Some wire) = do
  ends ← ends_of parts sheets n wire
  if is_full done (wire_link sheets n wire ends) then Err (TooManyCauses n) else Ok (done ++ wire_link sheets n wire ends ∷ [])

-- the links of all wires
abbrev pub wire_links : List Part → List SheetView → List (Option Wire) → Result (List Link) JoinFault
wire_links parts sheets wires = walk (with_wire parts sheets) 0 [] wires
