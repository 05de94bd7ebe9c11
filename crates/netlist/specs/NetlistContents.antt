-- What a netlist holds.
use Rattle.std.specs.Prelude.{ℕ, List, Option}
use Rattle.itv_base.specs.Range.{Ends}
use Rattle.netlist.specs.declared.part.Part.{Part}
use Rattle.netlist.specs.declared.pin.PinText.{PinText}
use Rattle.netlist.specs.declared.wire.Wire.{Wire}
use Rattle.json_tree.specs.declared.stray_key.StrayKey.{StrayKey}

-- the name of a net, as it is written, if it has one; its pins, the first of which drives the others; and the range of the delay in picoseconds
pub record PinNetView : Type 0 where
  pub name : Option (List ℕ)
  pub pins : List PinText
  pub delay : Ends

-- The version, the number of cycles, and the parts, nets and wires in order. A comment among the wires is `None`. The edges are the texts of the wires in
-- order, as they are written, comments among them. The stray keys are the keys of the tree, of its parts and of its nets that are not known.
pub record NetlistView : Type 0 where
  pub version : ℕ
  pub cycles : ℕ
  pub parts : List Part
  pub nets : List PinNetView
  pub wires : List (Option Wire)
  pub edges : List (List ℕ)
  pub stray : List StrayKey
