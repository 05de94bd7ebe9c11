use Rattle.std.proofs.Common.{◌≡◌, drop}
use Rattle.netlist.specs.Netlist.{names_from, sheet_names}
use Rattle.netlist.proofs.sheet_names.names_of_sheets.Given as goal

-- the parts that are left lead on to the names of all
abbrev pub invariant-loop-part : goal.invariant-loop-part
invariant-loop-part l = names_from l.names (drop l.part-index l.parts) ≡ sheet_names l.parts
