-- The walk over the wires.
use Rattle.std.proofs.Common.{◌≡◌, ℕ, ◌+◌, ◌<◌, false, List, [], ◌∷◌, ◌++◌, length, drop, get_or, Option, Some, None, Result, Ok, Err, refl}
use Rattle.itv_base.specs.Reading.{walk, IsReadingFault}
use Rattle.itv_base.proofs.Faults.{IsReadingFault-on, IsReadingFault-first, walk_on, walk_fault}
use Rattle.netlist.specs.declared.part.Part.{Part}
use Rattle.netlist.specs.declared.wire.Wire.{Wire}
use Rattle.sheet.specs.declared.groups.GroupFault.{GroupFault}
use Rattle.sheet.specs.declared.groups.GroupFault.TheVariants.{TooManyCauses, NoMemory}
use Rattle.sheet.specs.declared.row.SheetRow.{SheetRow}
use Rattle.sheet.specs.SheetContents.{SheetView}
use Rattle.sheet.specs.Groups.{Places, RepresentsRules, IsFullFault}
use Rattle.sheet.specs.Links.{Link, is_full, link_rows}
use Rattle.sheet.specs.Rule.{RuleView}
use Rattle.compose.specs.declared.fault.JoinFault.{JoinFault}
use Rattle.compose.specs.declared.wires.WireEnds.{WireEnds}
use Rattle.compose.specs.Fault.{is_memory, join_fault}
use Rattle.compose.specs.Step.{rules_and_rows}
use Rattle.compose.specs.Wires.{ends_of, wire_link, with_wire, wire_links}

-- What was read of the wires before number n: links, their rules, the table of their groups, and their rows.
pub record WiresRead (parts : List Part) (sheets : List SheetView) (wires : List (Option Wire)) (n : ℕ) (all : List RuleView) (places : Places) (rows : List SheetRow) : Type 0 where
  pub links : List Link
  pub stands : RepresentsRules [] links all places
  pub asked : rows ≡ link_rows links
  pub left : walk (with_wire parts sheets) n links (drop n wires) ≡ wire_links parts sheets wires

full_fault : (parts : List Part) (sheets : List SheetView) (links : List Link) (n : ℕ) (wire : Wire) (ends : WireEnds) (fault : GroupFault) → ends_of parts sheets n wire ≡ Ok ends
    → IsFullFault n (is_full links (wire_link sheets n wire ends)) fault → IsReadingFault is_memory (with_wire parts sheets n links (Some wire)) (join_fault fault)
full_fault parts sheets links n wire ends (TooManyCauses m) found full = rw (found, full.1, full.0) refl
full_fault parts sheets links n wire ends NoMemory found full = tt

module _ (parts : List Part) (sheets : List SheetView) (wires : List (Option Wire)) (links : List Link) (n : ℕ) (wire : Option Wire) (within : n < length wires) (read : wire ≡ get_or wires n wire) where
  -- a comment changes nothing
  pub wire-comment : wire ≡ None → walk (with_wire parts sheets) n links (drop n wires) ≡ walk (with_wire parts sheets) (n + 1) links (drop (n + 1) wires)
  wire-comment none = walk_on (with_wire parts sheets) n n links links wires wire within read (rw none refl)

  module _ (some : Wire) (is : wire ≡ Some some) where
    -- an end of the wire is not there
    pub wire-fault : (fault : JoinFault) → IsReadingFault is_memory (ends_of parts sheets n some) fault → IsReadingFault is_memory (walk (with_wire parts sheets) n links (drop n wires)) fault
    wire-fault fault h = walk_fault is_memory (with_wire parts sheets) n n links wires wire fault within read (rw is (IsReadingFault-first is_memory (ends_of parts sheets n some) _ fault h))

    module _ (ends : WireEnds) (found : ends_of parts sheets n some ≡ Ok ends) where
      pub wire-full : (fault : GroupFault) → IsFullFault n (is_full links (wire_link sheets n some ends)) fault → IsReadingFault is_memory (walk (with_wire parts sheets) n links (drop n wires)) (join_fault fault)
      wire-full fault full =
          walk_fault is_memory (with_wire parts sheets) n n links wires wire (join_fault fault) within read (rw is (full_fault parts sheets links n some ends fault found full))

      pub wire-link : is_full links (wire_link sheets n some ends) ≡ false
          → walk (with_wire parts sheets) n links (drop n wires) ≡ walk (with_wire parts sheets) (n + 1) (links ++ wire_link sheets n some ends ∷ []) (drop (n + 1) wires)
      wire-link room = walk_on (with_wire parts sheets) n n links (links ++ wire_link sheets n some ends ∷ []) wires wire within read (rw (is, found, room) refl)

rules_fault : (read : Result (List Link) JoinFault) (fault : JoinFault) → read ≡ Err fault → rules_and_rows read ≡ Err fault
rules_fault (Ok links) fault e = absurd cc
rules_fault (Err d) fault e = cc

-- a fault of the wires that are left is a fault of their rules and rows
pub wires_full : (parts : List Part) (sheets : List SheetView) (wires : List (Option Wire)) (n : ℕ) (links : List Link) (fault : GroupFault) → IsReadingFault is_memory (walk (with_wire parts sheets) n links (drop n wires)) (join_fault fault)
    → IsReadingFault is_memory (rules_and_rows (walk (with_wire parts sheets) n links (drop n wires))) (join_fault fault)
wires_full parts sheets wires n links fault h =
    IsReadingFault-on is_memory (walk (with_wire parts sheets) n links (drop n wires)) (rules_and_rows (walk (with_wire parts sheets) n links (drop n wires))) (join_fault fault) (λ d is. rules_fault _ d is) h
