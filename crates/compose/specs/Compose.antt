-- The design of a netlist and its sheets, or the first fault. Faults of nets come before faults of wires.
use Rattle.std.specs.Prelude.{map, List, Result, Ok}
use Rattle.itv_base.specs.Reading.{◌>>=◌}
use Rattle.netlist.specs.declared.part.Part.{Part}
use Rattle.netlist.specs.NetlistContents.{NetlistView}
use Rattle.sheet.specs.SheetContents as sheet
use Rattle.sheet.specs.Links.{link_rules, link_rows}
use Rattle.compose.specs.declared.fault.JoinFault.{JoinFault}
use Rattle.compose.specs.Design.{DesignView}
use Rattle.compose.specs.Nets.{joins_of}
use Rattle.compose.specs.Sheets.{SheetMap, sheets_of}
use Rattle.compose.specs.Wires.{wire_links}

-- The design of a netlist whose parts are drawn on these sheets. The wires are links between the numbers of their marks, and are grouped into rules
-- as the edges of a sheet are.
unfoldable pub composed_on : NetlistView → List sheet.SheetView → Result DesignView JoinFault
composed_on netlist sheets = do
  joins ← joins_of netlist.parts sheets netlist.nets
  links ← wire_links netlist.parts sheets netlist.wires
  Ok (record {
    cycles = netlist.cycles;
    parts = map (λ (part : Part). part.name) netlist.parts;
    sheets = sheets;
    joins = joins;
    rules = link_rules links;
    rows = link_rows links;
  })

-- the design of a netlist and the sheets that its parts name
abbrev pub composed : NetlistView → SheetMap → Result DesignView JoinFault
composed netlist sheets = composed_on netlist (sheets_of sheets netlist.parts)
