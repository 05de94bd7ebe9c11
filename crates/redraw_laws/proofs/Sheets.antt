-- A drawing is read as a sheet whose rules keep the drawn times.
use Rattle.std.proofs.Common.{◌≡◌, ◌-◌, ◌≤◌, List, [], ◌∷◌, ◌++◌, length, map, bytes_eq, None, Ok, refl, ap, ℕ}
use Rattle.itv_base.specs.Names.{Name}
use Rattle.itv_base.specs.Range.{Ends}
use Rattle.itv_base.specs.declared.names.EventId.{EventId}
use Rattle.itv_base.specs.declared.row_kind.RowKind.TheVariants as asked
use Rattle.origin.specs.declared.origin.Origin.TheVariants.{Edge}
use Rattle.sheet.specs.SheetContents.{SheetView}
use Rattle.sheet.specs.Lanes.{first_repeated}
use Rattle.sheet.specs.Links.{plain}
use Rattle.sheet.specs.Sheet.{sheet_of}
use Rattle.redraw.specs.declared.drawn_event.DrawnEvent.{DrawnEvent}
use Rattle.redraw.specs.declared.drawn_event.TheConstants.{MOST_DRAWN}
use Rattle.redraw.specs.Drawing.{lane_of, number_in, sketch_of}
use Rattle.redraw_laws.proofs.Linked.{IsSound, demand_link, edges_linked, edges_read, lin_rule, links_by, read_from, rows_linked, rules_linked}
use Rattle.redraw_laws.proofs.Marks.{IsFew, marks_from, text_lane}
use Rattle.redraw.proofs.Ordered.{AreNumbered, Every}
use Rattle.redraw_laws.proofs.Read.{lane_names, marks_read, orders_are, orders_from, pins_from, pins_read}
use Rattle.redraw_laws.proofs.Tree.{drawn_lane, near_drawn}

abbrev pub sheet_drawn : (EventId → Name) → EventId → EventId → Ends → List DrawnEvent → SheetView
sheet_drawn name from to ends ss = record {
  marks = marks_from name 0 ss;
  pins = pins_from name 0 ss;
  rules = orders_from 0 ss ++ map lin_rule (read_from 0 (links_by ss));
  rows = (record { kind = asked.Req ends; from = number_in ss from; to = number_in ss to; shift = 0; origin = Edge (length ss - 1) }) ∷ [];
  edges = (sketch_of name from to ends ss).edges;
  near = near_drawn (sketch_of name from to ends ss);
}

-- what holds of the places of drawn events, so that their drawing can be read
pub record IsDrawable (name : EventId → Name) (from to : EventId) (ends : Ends) (ss : List DrawnEvent) : Type 0 where
  pub some : 1 ≤ length ss
  pub few : length ss ≤ MOST_DRAWN
  pub numbers : AreNumbered 0 ss
  pub marked : Every IsFew ss
  pub names : first_repeated bytes_eq (λ (text : List ℕ). text) [] (lane_names name ss) ≡ None
  pub links : Every (IsSound (marks_from name 0 ss)) (links_by ss ++ demand_link ss from to ends ∷ [])

lanes_same : (name : EventId → Name) (ss : List DrawnEvent) → map drawn_lane (map (lane_of name) ss) ≡ map (text_lane name) ss
lanes_same name [] = refl
lanes_same name (s ∷ ss) = ap (λ l. text_lane name s ∷ l) (lanes_same name ss)

pub sheet_is : (name : EventId → Name) (from to : EventId) (ends : Ends) (ss : List DrawnEvent) → IsDrawable name from to ends ss
    → sheet_of plain (record { lanes = map drawn_lane (sketch_of name from to ends ss).lanes; edges = (sketch_of name from to ends ss).edges; near = near_drawn (sketch_of name from to ends ss) }) ≡ Ok (sheet_drawn name from to ends ss)
unfolding sheet_of
sheet_is name from to ends ss h =
    rw (
      lanes_same name ss,
      marks_read name ss h.numbers h.few h.marked,
      pins_read name ss h.marked h.names,
      edges_linked ss from to ends,
      edges_read (marks_from name 0 ss) 0 [] (links_by ss ++ demand_link ss from to ends ∷ []) h.links,
      orders_are name ss h.marked,
      rules_linked ss from to ends h.some,
      rows_linked ss from to ends h.some,
    ) refl
