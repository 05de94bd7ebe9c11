use Rattle.std.proofs.Common.{◌∙◌, ap}
use Rattle.design_plan.specs.Plan.{sheet_among}
use Rattle.design_plan.proofs.PartPlaces.{places_more}
use Rattle.design_plan.proofs.places.places_of.Goals as goal

pub loop-part-preserved : goal.loop-part-preserved
loop-part-preserved c =
    places_more c.args.sheets.now.entries c.args.parts.now c.loop-part.part-index c.part-item.result c.loop-part.places.items c.push.new.self.items c.place_of-place.result c.loop-part-test.true c.part-item.is c.loop-part.invariant
    (c.place_of-place.ensures ∙ ap (sheet_among c.args.sheets.now.entries) c.in_ok-key.ensures.key) c.in_ok-push.ensures.items
