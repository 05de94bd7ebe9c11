-- The definitions at an example, worked by hand: of two events, the second has to come within 249 ps of the first, and comes after 250.
use Rattle.std.proofs.Common.{◌≡◌, pos, List, [], ◌∷◌, codes, Some, refl}
use Rattle.itv_base.specs.Range.{Ends}
use Rattle.itv_base.specs.declared.row_kind.RowKind.TheVariants.{Req}
use Rattle.label_grammar.specs.declared.label.Kind.TheVariants as kinds
use Rattle.origin.specs.declared.origin.Origin.TheVariants.{Edge}
use Rattle.drawn_networks.specs.Drawn.{Drawn}
use Rattle.redraw.specs.Drawing.{Lane, edge_text, exactly, range_label, sketched}
use Rattle.redraw.specs.Narrowing.{narrowed}
use Rattle.redraw.specs.Order.{drawn_events, event}
use Rattle.redraw.specs.Text.{sketch_text}

abbrev within_249 : Ends
within_249 = record { low = Some (pos 0); high = Some (pos 249) }

abbrev two : Drawn
two = record {
  net = record { events = 2; constraints = [] };
  origins = [];
  names = (record { part = codes "U"; mark = 97; cycle = 0 }) ∷ (record { part = codes "U"; mark = 98; cycle = 0 }) ∷ [];
  rows = (record { kind = Req within_249; from = event 0; to = event 1; origin = Edge 0 }) ∷ [];
}

abbrev lanes : List Lane
lanes = (record { name = codes "U.a@0"; wave = codes "01"; node = codes ".a" }) ∷ (record { name = codes "U.b@0"; wave = codes "0.1"; node = codes "..b" }) ∷ []

sketched_two : sketched two 0 (pos 0 ∷ pos 250 ∷ []) ≡ record {
  lanes = lanes;
  edges = edge_text 97 98 (range_label kinds.Lin (exactly (pos 250))) ∷ edge_text 97 98 (range_label kinds.Req within_249) ∷ [];
}
unfolding sketched narrowed drawn_events
sketched_two = refl

text_of_two : sketch_text (record { lanes = lanes; edges = codes "a->b @lin [250,250]" ∷ codes "a->b @req [0,249]" ∷ [] })
    ≡ codes "{\"signal\":[{\"name\":\"U.a@0\",\"wave\":\"01\",\"node\":\".a\"},{\"name\":\"U.b@0\",\"wave\":\"0.1\",\"node\":\"..b\"}],\"edge\":[\"a->b @lin [250,250]\",\"a->b @req [0,249]\"]}\n"
text_of_two = refl

-- of the gaps 3, 37 and 5, the gap that is greater than 10 becomes 10
narrowed_by_10 : narrowed 10 (pos 0 ∷ pos 3 ∷ pos 40 ∷ pos 45 ∷ []) ≡ pos 0 ∷ pos 3 ∷ pos 13 ∷ pos 18 ∷ []
unfolding narrowed
narrowed_by_10 = refl
