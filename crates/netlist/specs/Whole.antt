-- What holds of every netlist.
use Rattle.std.specs.Prelude.{◌≤◌, length, All, IfSome}
use Rattle.itv_base.specs.Range.{IsRange}
use Rattle.itv_base.specs.declared.limits.TheConstants.{MAX_CYCLES, MAX_PARTS, MAX_SHEET_NAMES, MAX_SHIFT}
use Rattle.netlist.specs.declared.wire.Wire.{Wire}
use Rattle.netlist.specs.NetlistContents.{NetlistView, PinNetView}
use Rattle.netlist.specs.Netlist.{sheet_names}

-- a net has a pin, and its delay is a range
pub record IsWholeNet (net : PinNetView) : Type 0 where
  pub some : 1 ≤ length net.pins
  pub range : IsRange net.delay

-- a wire looks back no more cycles than a label may, and its ends, where it has them, are a range
pub record IsWholeWire (wire : Wire) : Type 0 where
  pub shift : wire.shift ≤ MAX_SHIFT
  pub ends : IfSome wire.range IsRange

-- there is a cycle or more; the numbers of cycles, of parts and of sheet names are within their limits; and nets and wires are whole
pub record IsNetlist (n : NetlistView) : Type 0 where
  pub some : 1 ≤ n.cycles
  pub few : n.cycles ≤ MAX_CYCLES
  pub few_parts : length n.parts ≤ MAX_PARTS
  pub few_sheets : length (sheet_names n.parts) ≤ MAX_SHEET_NAMES
  pub whole_nets : All IsWholeNet n.nets
  pub whole_wires : All (λ wire. IfSome wire IsWholeWire) n.wires
