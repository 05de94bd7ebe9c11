-- The names and the ranges of a design that was read.
use Rattle.std.proofs.Common.{ℕ, List}
use Rattle.itv_base.specs.Outside.{ShelfState}
use Rattle.drawn_networks.specs.Drawn.{Drawn}
use Rattle.design_reading.specs.Design.{design_at}
use Rattle.design_reading.specs.FileReading.{RunsToEnd, ready}
use Rattle.drawn_laws.proofs.Designs.{drawn_names_have_form, drawn_ranges_have_form}
use Rattle.itv_cli.specs.Step.{HasForm}

-- the names and the ranges have their form
pub drawn_has_form : (name : List ℕ) (old new : ShelfState) (drawn : Drawn) → RunsToEnd old new (design_at name) (ready drawn) → HasForm drawn
drawn_has_form name old new drawn h = record { names = drawn_names_have_form old name drawn h.0; ranges = drawn_ranges_have_form old name drawn h.0 }
