use Rattle.std.proofs.Common.{◌+◌, drop}
use Rattle.design_reading.specs.Design.{sheets_in, sheets_of_files}
use Rattle.design_reading.specs.FileReading.{each}
use Rattle.design_reading.proofs.Opens.{Resumes}
use Rattle.design_reading.proofs.sheets.open_sheets.Given as goal

-- the names that are left lead on to the sheets of all
abbrev pub invariant-loop-k : goal.invariant-loop-k
invariant-loop-k g l =
    Resumes (g.H.Shelf.state l.fn.shelf) (g.H.Shelf.state l.shelf) (sheets_of_files l.netlist l.names) (each (sheets_in l.netlist) (l.k + 1) l.sheets.entries (drop l.k l.names))
