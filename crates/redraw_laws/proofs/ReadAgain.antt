-- The text of a drawing is read as a sheet.
use Rattle.std.proofs.Common.{◌≡◌, ◌<◌, ◌≤◌, ℕ, ℤ, zero, suc, List, [], ◌∷◌, ◌++◌, length, map, All, slice_get, unwrap_or, ◌∙◌, refl, sym, ap, subst, arith, length-append}
use Rattle.itv_base.specs.Names.{Name}
use Rattle.itv_base.specs.Range.{Ends, IsRange}
use Rattle.itv_base.specs.declared.names.EventId.{EventId}
use Rattle.drawn_networks.specs.Drawn.{Drawn, name_of, nameless}
use Rattle.slack_report.specs.Entry.{IsName}
use Rattle.redraw.specs.declared.drawn_event.DrawnEvent.{DrawnEvent}
use Rattle.redraw.specs.declared.drawn_event.Timed.{Timed}
use Rattle.redraw.specs.declared.drawn_event.TheConstants.{MOST_DRAWN}
use Rattle.redraw_laws.specs.ReadAgain.{IsSheetText, RedrawnIsSheet}
use Rattle.redraw.specs.Drawing.{Lane, demand_of, lane_of, number_in, sketch_of, stands_drawn, stands_of}
use Rattle.redraw.specs.Order.{drawn_events, ordered_events, timed_at}
use Rattle.redraw.specs.Laws.{NamesDiffer}
use Rattle.redraw.specs.Step.{IsStand, StandNear}
use Rattle.redraw.specs.Text.{redrawn, sketch_text}
use Rattle.redraw.proofs.Distinct.{has_from, has_to, number_within}
use Rattle.redraw_laws.proofs.Drawable.{drawable}
use Rattle.redraw.proofs.Farther.{stands_same}
use Rattle.redraw_laws.proofs.Marks.{IsFew}
use Rattle.redraw_laws.proofs.Read.{length-marks}
use Rattle.redraw.proofs.Ordered.{Every, every_drawn, every_in_order, every_stand, every_weaker, length-ordered_events, length-stands, near_stands, some_drawn, sorted_in_order, timed_there}
use Rattle.redraw.proofs.Rows.{redrawn_is}
use Rattle.redraw_laws.proofs.Sheets.{IsDrawable, sheet_drawn, sheet_is}
use Rattle.redraw_laws.proofs.Short.{sketch_short}
use Rattle.redraw_laws.proofs.Tree.{diagram_is, drawn_lane, lone_tree, near_drawn, reads_tree, sketch_tree}
use Rattle.redraw_laws.proofs.Visible.{sketch_plain, sketch_utf8, sketch_visible}

-- ---- names

named_at : (drawn : Drawn) (e : EventId) → length drawn.names ≡ drawn.net.events → All IsName drawn.names → e.0 < drawn.net.events → IsName (name_of drawn e)
named_at drawn e count named within = got drawn.names e.0 (omega arith) named where
  got : (names : List Name) (i : ℕ) → i < length names → All IsName names → IsName (unwrap_or (slice_get names i) nameless)
  got [] i h all = absurd (omega arith)
  got (n ∷ ns) zero h all = all 0 n (omega arith)
  got (n ∷ ns) (suc i) h all = got ns i (omega arith) (λ k d lt. all (suc k) d (omega arith))

pub each_named : (drawn : Drawn) (ss : List DrawnEvent) → length drawn.names ≡ drawn.net.events → All IsName drawn.names → Every (IsStand drawn.net.events) ss
    → Every (λ (s : DrawnEvent). IsName (name_of drawn s.event)) ss
each_named drawn [] count named h = tt
each_named drawn (s ∷ ss) count named h = (named_at drawn s.event count named h.0.event, each_named drawn ss count named h.1)

pub each_long : (name : EventId → Name) (ss : List DrawnEvent) → Every (λ (lane : Lane). 0 < length lane.name) (map (lane_of name) ss)
each_long name [] = tt
each_long name (s ∷ ss) = (long_enough (name s.event).part (name s.event).mark _, each_long name ss) where
  long_enough : (part : List ℕ) (mark : ℕ) (rest : List ℕ) → 0 < length (part ++ (46 ∷ mark ∷ rest))
  long_enough part mark rest = omega (arith, length-append part (46 ∷ mark ∷ rest))

-- ---- of a row

-- what holds of the drawn events of a pair in order
pub record IsPairDrawn (drawn : Drawn) (from to : EventId) (ends : Ends) (xs : List Timed) : Type 0 where
  pub drawable : IsDrawable (name_of drawn) from to ends (stands_of xs)
  pub stand : Every (IsStand drawn.net.events) (stands_of xs)
  pub near : StandNear (stands_of xs)
  pub in_from : number_in (stands_of xs) from < MOST_DRAWN
  pub in_to : number_in (stands_of xs) to < MOST_DRAWN

pub pair_drawn : (drawn : Drawn) (from to : EventId) (ends : Ends) (times : List ℤ) → from.0 < drawn.net.events → to.0 < drawn.net.events → NamesDiffer drawn → IsRange ends
    → IsPairDrawn drawn from to ends (ordered_events from to drawn.net.events times)
pair_drawn drawn from to ends times in_from in_to differ range =
    let n : ℕ = drawn.net.events in
    let some = some_drawn from to drawn.net.events in
    let long = length-ordered_events from to drawn.net.events times in
    let least : 1 ≤ length (ordered_events from to drawn.net.events times) = omega (arith, some.0) in
    let few : length (ordered_events from to drawn.net.events times) ≤ MOST_DRAWN = omega (arith, some.1) in
    let there = every_in_order (λ (x : Timed). x.event.0 < drawn.net.events) (map (timed_at times) (drawn_events from to drawn.net.events))
    (timed_there drawn.net.events times (drawn_events from to drawn.net.events) (every_drawn from to drawn.net.events in_from in_to)) in
    let stand = every_stand drawn.net.events (ordered_events from to drawn.net.events times) few there in
    let near = near_stands (ordered_events from to drawn.net.events times) (sorted_in_order (map (timed_at times) (drawn_events from to drawn.net.events))) in
    record {
      drawable = drawable drawn.net.events (name_of drawn) from to ends times (ordered_events from to drawn.net.events times) refl least few (length-stands (ordered_events from to drawn.net.events times)) there
          (every_weaker (IsStand drawn.net.events) IsFew _ (λ s h. h.number) stand) near differ range;
      stand = stand;
      near = near;
      in_from = omega (arith, number_within from (ordered_events from to drawn.net.events times) (has_from from to drawn.net.events times));
      in_to = omega (arith, number_within to (ordered_events from to drawn.net.events times) (has_to from to drawn.net.events times));
    }

pub pair_read : (drawn : Drawn) (from to : EventId) (ends : Ends) (xs : List Timed) → length drawn.names ≡ drawn.net.events → All IsName drawn.names → IsRange ends
    → IsPairDrawn drawn from to ends xs → IsSheetText (sketch_text (sketch_of (name_of drawn) from to ends (stands_of xs))) (stands_of xs) from to ends
pair_read drawn from to ends xs count named range pair =
    let names = each_named drawn (stands_of xs) count named pair.stand in
    let visible = sketch_visible (name_of drawn) from to ends (stands_of xs) names pair.drawable.marked pair.in_from pair.in_to in
    record {
      utf8 = sketch_utf8 (sketch_of (name_of drawn) from to ends (stands_of xs)) visible;
      short = sketch_short (name_of drawn) from to ends drawn.net.events (stands_of xs) pair.drawable.few names pair.stand pair.near range;
      tree = sketch_tree (sketch_of (name_of drawn) from to ends (stands_of xs));
      reads = reads_tree (sketch_of (name_of drawn) from to ends (stands_of xs)) (sketch_plain (sketch_of (name_of drawn) from to ends (stands_of xs)) visible);
      lone = lone_tree (sketch_of (name_of drawn) from to ends (stands_of xs));
      drawing = record {
        lanes = map drawn_lane (sketch_of (name_of drawn) from to ends (stands_of xs)).lanes;
        edges = (sketch_of (name_of drawn) from to ends (stands_of xs)).edges;
        near = near_drawn (sketch_of (name_of drawn) from to ends (stands_of xs));
      };
      draws = diagram_is (sketch_of (name_of drawn) from to ends (stands_of xs)) (each_long (name_of drawn) (stands_of xs));
      sheet = sheet_drawn (name_of drawn) from to ends (stands_of xs);
      is_sheet = sheet_is (name_of drawn) from to ends (stands_of xs) pair.drawable;
      marks = length-marks (name_of drawn) 0 (stands_of xs);
      rows = refl;
    }

pub redrawn_is_sheet : RedrawnIsSheet
redrawn_is_sheet drawn row asked ends times there within demands range count named_count named differ =
    let pair = pair_drawn drawn asked.from asked.to ends times within.0 within.1 differ range in
    let same = stands_same drawn row asked times there count within in
    let at : ordered_events asked.from asked.to (length times) times ≡ ordered_events asked.from asked.to drawn.net.events times = ap (λ n. ordered_events asked.from asked.to n times) count in
    let drawing : redrawn drawn row times ≡ sketch_text (sketch_of (name_of drawn) asked.from asked.to ends (stands_of (ordered_events asked.from asked.to drawn.net.events times))) =
    redrawn_is drawn row asked times there count within.0 within.1
    ∙ ap (λ kind. sketch_text (sketch_of (name_of drawn) asked.from asked.to (demand_of kind) (stands_of (ordered_events asked.from asked.to (length times) times)))) demands
    ∙ ap (λ xs. sketch_text (sketch_of (name_of drawn) asked.from asked.to ends (stands_of xs))) at in
    subst (λ text. IsSheetText text (stands_drawn drawn row times) asked.from asked.to ends) (sym drawing)
    (subst (λ ss. IsSheetText (sketch_text (sketch_of (name_of drawn) asked.from asked.to ends (stands_of (ordered_events asked.from asked.to drawn.net.events times)))) ss asked.from asked.to ends)
    (sym (same ∙ ap stands_of at)) (pair_read drawn asked.from asked.to ends (ordered_events asked.from asked.to drawn.net.events times) named_count named range pair))
