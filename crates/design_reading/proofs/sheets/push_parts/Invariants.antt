use Rattle.std.proofs.Common.{drop}
use Rattle.itv_base.specs.Outside.{ShelfState}
use Rattle.design_reading.specs.Design.{with_part}
use Rattle.design_reading.specs.FileReading.{each}
use Rattle.design_reading.proofs.Opens.{Resumes}
use Rattle.design_reading.proofs.sheets.push_parts.Given as goal

-- the parts that are left lead on to the sheets of all
abbrev pub invariant-loop-part : goal.invariant-loop-part
invariant-loop-part l =
    (state : ShelfState) → Resumes state state (each (with_part l.place l.name l.grades l.diagram) 0 l.fn.sheets.entries l.parts)
    (each (with_part l.place l.name l.grades l.diagram) l.part-index l.sheets.entries (drop l.part-index l.parts))
