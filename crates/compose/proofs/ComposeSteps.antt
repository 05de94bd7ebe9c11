-- The design of a netlist on its sheets, step by step.
use Rattle.std.proofs.Common.{◌≡◌, ℕ, List, map, Result, Ok, Err, ap}
use Rattle.itv_base.specs.Reading.{◌>>=◌, IsReadingFault}
use Rattle.itv_base.proofs.Faults.{IsReadingFault-first, IsReadingFault-on}
use Rattle.netlist.specs.declared.part.Part.{Part}
use Rattle.netlist.specs.NetlistContents.{NetlistView as Netlist}
use Rattle.sheet.specs.declared.row.SheetRow.{SheetRow}
use Rattle.sheet.specs.SheetContents.{SheetView}
use Rattle.sheet.specs.Links.{Link, link_rows, link_rules}
use Rattle.sheet.specs.Rule.{RuleView}
use Rattle.compose.specs.declared.fault.JoinFault.{JoinFault}
use Rattle.compose.specs.declared.joins.Join.{Join}
use Rattle.compose.specs.declared.wires.NumberedWires.{NumberedWires}
use Rattle.compose.specs.Compose.{composed_on}
use Rattle.compose.specs.Fault.{is_memory}
use Rattle.compose.specs.Nets.{joins_of}
use Rattle.compose.specs.Step.{rules_and_rows}
use Rattle.compose.specs.Wires.{wire_links}

same_fault : {B : Type 0} (read : Result (List Link) JoinFault) (f : List Link → Result B JoinFault) (fault : JoinFault) → rules_and_rows read ≡ Err fault → (read >>= f) ≡ Err fault
same_fault (Ok links) f fault e = absurd cc
same_fault (Err d) f fault e = cc

same_design : {B : Type 0} (read : Result (List Link) JoinFault) (f : List RuleView → List SheetRow → B) (wires : NumberedWires) → rules_and_rows read ≡ Ok wires
    → (read >>= (λ links. Ok (f (link_rules links) (link_rows links)))) ≡ Ok (f wires.rules wires.rows)
same_design (Ok links) f wires e =
    let same : record { rules = link_rules links; rows = link_rows links } ≡ wires = cc in ap (λ (w : NumberedWires). Ok (f w.rules w.rows)) same
same_design (Err d) f wires e = absurd cc

module _ (netlist : Netlist) (sheets : List SheetView) where
  pub joins-fault : (fault : JoinFault) → IsReadingFault is_memory (joins_of netlist.parts sheets netlist.nets) fault → IsReadingFault is_memory (composed_on netlist sheets) fault
  unfolding composed_on
  joins-fault fault h = IsReadingFault-first is_memory (joins_of netlist.parts sheets netlist.nets) _ fault h

  module _ (joins : List Join) (joined : joins_of netlist.parts sheets netlist.nets ≡ Ok joins) where
    pub wires-fault : (fault : JoinFault) → IsReadingFault is_memory (rules_and_rows (wire_links netlist.parts sheets netlist.wires)) fault → IsReadingFault is_memory (composed_on netlist sheets) fault
    unfolding composed_on
    wires-fault fault h = rw joined (IsReadingFault-on is_memory _ _ fault (λ d is. same_fault (wire_links netlist.parts sheets netlist.wires) _ d is) h)

    pub composed-ok : (wires : NumberedWires) (cycles : ℕ) (parts : List (List ℕ)) → rules_and_rows (wire_links netlist.parts sheets netlist.wires) ≡ Ok wires
        → cycles ≡ netlist.cycles → parts ≡ map (λ (part : Part). part.name) netlist.parts
        → composed_on netlist sheets ≡ Ok (record { cycles = cycles; parts = parts; sheets = sheets; joins = joins; rules = wires.rules; rows = wires.rows })
    unfolding composed_on
    composed-ok wires cycles parts read c p =
        rw (c, p, joined)
        (same_design (wire_links netlist.parts sheets netlist.wires)
        (λ all asked. record { cycles = netlist.cycles; parts = map (λ (part : Part). part.name) netlist.parts; sheets = sheets; joins = joins; rules = all; rows = asked })
        wires read)
