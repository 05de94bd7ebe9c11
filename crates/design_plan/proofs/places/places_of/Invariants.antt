use Rattle.std.proofs.Common.{take}
use Rattle.design_plan.specs.Step.{ArePartPlaces}
use Rattle.design_plan.proofs.places.places_of.Given as goal

abbrev pub invariant-loop-part : goal.invariant-loop-part
invariant-loop-part l = ArePartPlaces l.sheets.entries (take l.part-index l.parts) l.places.items
