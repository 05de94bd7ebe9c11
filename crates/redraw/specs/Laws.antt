-- Laws of narrowed times and of drawings, over the definitions alone.
use Rattle.std.specs.Prelude.{◌≡◌, ◌<◌, ◌≤◌, ℕ, ℤ, pos, neg_ℤ, ◌-ℤ◌, ◌≤ℤ◌, ◌<ℤ◌, List, length, map, All, Some, slice_get, slice_index_or}
use Rattle.std.specs.List.{range_with_len}
use Rattle.itv_base.specs.declared.names.EventId.{EventId}
use Rattle.event_graph.specs.Network.{IsNet, Net}
use Rattle.event_graph.specs.Satisfying.{Satisfies}
use Rattle.event_graph.specs.Times.{separation}
use Rattle.drawn_networks.specs.declared.row.Row.{Row}
use Rattle.drawn_networks.specs.Drawn.{Drawn, IsRowOf, name_of, nameless}
use Rattle.slack_report.specs.Entry.{IsName}
use Rattle.slack_report.specs.Text.{name_word}
use Rattle.redraw.specs.declared.drawn_event.DrawnEvent.{DrawnEvent}
use Rattle.redraw.specs.declared.drawn_event.TheConstants.{MOST_DRAWN}
use Rattle.redraw.specs.Drawing.{stands_drawn, time_in}
use Rattle.redraw.specs.Narrowing.{HasGapsWithin, narrowed, widest_gap}
use Rattle.redraw.specs.Order.{event}

-- narrowing reduces each gap between neighbouring times that is greater than the width to the width, and changes no other gap
abbrev pub NarrowingIsByGaps : Type 0
NarrowingIsByGaps = (width : ℕ) (times : List ℤ) → HasGapsWithin width times (narrowed width times)

-- if times satisfy, their narrowed times satisfy
abbrev pub NarrowedSatisfy : Type 0
NarrowedSatisfy = (net : Net) (times : List ℤ) → IsNet net → Satisfies times net → Satisfies (narrowed widest_gap times) net

-- an end that narrowed times stay past: within the limit, and not the limit itself on its own side
abbrev pub IsInnerHigh : ℤ → Type 0
IsInnerHigh high = (neg_ℤ (pos widest_gap) ≤ℤ high) × (high <ℤ pos widest_gap)

abbrev pub IsInnerLow : ℤ → Type 0
IsInnerLow low = (neg_ℤ (pos widest_gap) <ℤ low) × (low ≤ℤ pos widest_gap)

-- a separation past such an end stays past it in narrowed times
abbrev pub NarrowedStayAbove : Type 0
NarrowedStayAbove = (times : List ℤ) (from to : EventId) (high : ℤ) → from.0 < length times → to.0 < length times → IsInnerHigh high
    → high <ℤ separation times from to → high <ℤ separation (narrowed widest_gap times) from to

abbrev pub NarrowedStayBelow : Type 0
NarrowedStayBelow = (times : List ℤ) (from to : EventId) (low : ℤ) → from.0 < length times → to.0 < length times → IsInnerLow low
    → separation times from to <ℤ low → separation (narrowed widest_gap times) from to <ℤ low

-- the separation of a row past such an end stays past it in drawn times
abbrev pub DrawnStayAbove : Type 0
DrawnStayAbove = (drawn : Drawn) (row : ℕ) (asked : Row) (times : List ℤ) (high : ℤ) → slice_get drawn.rows row ≡ Some asked → IsRowOf drawn.net asked
    → length times ≡ drawn.net.events → IsInnerHigh high → high <ℤ separation times asked.from asked.to
    → high <ℤ (time_in (stands_drawn drawn row times) asked.to -ℤ time_in (stands_drawn drawn row times) asked.from)

abbrev pub DrawnStayBelow : Type 0
DrawnStayBelow = (drawn : Drawn) (row : ℕ) (asked : Row) (times : List ℤ) (low : ℤ) → slice_get drawn.rows row ≡ Some asked → IsRowOf drawn.net asked
    → length times ≡ drawn.net.events → IsInnerLow low → separation times asked.from asked.to <ℤ low
    → (time_in (stands_drawn drawn row times) asked.to -ℤ time_in (stands_drawn drawn row times) asked.from) <ℤ low

-- the drawn times of so many events, by event
abbrev pub event_times : ℕ → List DrawnEvent → List ℤ
event_times events stands = map (λ (number : ℕ). time_in stands (event number)) (range_with_len 0 events)

-- if a design has few enough events, all are drawn, and the drawn times of satisfying times satisfy
abbrev pub DrawnBelong : Type 0
DrawnBelong = (drawn : Drawn) (row : ℕ) (asked : Row) (times : List ℤ) → IsNet drawn.net → Satisfies times drawn.net → slice_get drawn.rows row ≡ Some asked
    → IsRowOf drawn.net asked → drawn.net.events ≤ MOST_DRAWN → Satisfies (event_times drawn.net.events (stands_drawn drawn row times)) drawn.net

-- ---- names

-- two events of a network have different names
abbrev pub NamesDiffer : Drawn → Type 0
NamesDiffer drawn =
    (a b : EventId) → a.0 < drawn.net.events → b.0 < drawn.net.events → name_word (name_of drawn a) ≡ name_word (name_of drawn b) → a.0 ≡ b.0

-- two events have different names if each name has the form of names, and no name occurs twice
abbrev pub OtherNamesDiffer : Type 0
OtherNamesDiffer = (drawn : Drawn) → length drawn.names ≡ drawn.net.events → All IsName drawn.names
    → ((i j : ℕ) → i < j → j < length drawn.names → slice_index_or drawn.names i nameless ≡ slice_index_or drawn.names j nameless → ⊥) → NamesDiffer drawn
