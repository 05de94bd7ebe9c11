-- What the text of a drawing is read as, if it is read as a design.
use Rattle.std.specs.Prelude.{◌≡◌, ◌-◌, ◌↔◌, ◌⊎◌, ℕ, ℤ, ◌<ℤ◌, List, [], ◌∷◌, length, All, IsSomeAnd, Some, slice_get}
use Rattle.itv_base.specs.Outside.{Files, file_of}
use Rattle.itv_base.specs.Range.{Allows, Ends, IsRange}
use Rattle.itv_base.specs.declared.names.EventId.{EventId}
use Rattle.itv_base.specs.declared.row_kind.RowKind.TheVariants.{Req}
use Rattle.origin.specs.declared.origin.Origin.TheVariants.{Edge}
use Rattle.event_graph.specs.Edges.{cause_choices}
use Rattle.event_graph.specs.Satisfying.{Satisfies}
use Rattle.event_graph.specs.Times.{separation, shifted}
use Rattle.drawn_networks.specs.declared.row.Row.{Row}
use Rattle.drawn_networks.specs.Drawn.{Drawn, IsRowOf}
use Rattle.slack_report.specs.Entry.{IsName}
use Rattle.design_reading.specs.Design.{design_at}
use Rattle.design_reading.specs.FileReading.{ready, end_over}
use Rattle.redraw.specs.declared.drawn_event.DrawnEvent.{DrawnEvent}
use Rattle.redraw.specs.Drawing.{drawn_times, number_in, stands_drawn}
use Rattle.redraw.specs.Laws.{IsInnerHigh, IsInnerLow, NamesDiffer}
use Rattle.redraw.specs.Order.{event}
use Rattle.redraw.specs.Text.{redrawn}

-- the row in the drawing of a pair; events are numbered in the order of time, and the last edge draws the row
abbrev pub row_again : List DrawnEvent → EventId → EventId → Ends → Row
row_again stands from to ends =
    record { kind = Req ends; from = event (number_in stands from); to = event (number_in stands to); origin = Edge (length stands - 1) }

-- What the drawing of a pair is read as. The network has no choices. Times satisfy it if and only if they are the drawn times in their order,
-- each plus one number. Its one row demands the range of the pair.
pub record IsRedrawn (stands : List DrawnEvent) (from to : EventId) (ends : Ends) (again : Drawn) : Type 0 where
  pub satisfied : (times : List ℤ) → (Satisfies times again.net ↔ ((by : ℤ) × (times ≡ shifted (drawn_times stands) by)))
  pub choices : cause_choices again.net.constraints ≡ 1
  pub rows : again.rows ≡ row_again stands from to ends ∷ []

-- the text of a row drawn at some times is the text of a design that is not refused
abbrev pub RedrawnIsRead : Type 0
RedrawnIsRead =
    (drawn : Drawn) (row : ℕ) (asked : Row) (ends : Ends) (times : List ℤ) (files : Files) (file : List ℕ)
    → slice_get drawn.rows row ≡ Some asked → IsRowOf drawn.net asked → asked.kind ≡ Req ends → IsRange ends → length times ≡ drawn.net.events
    → length drawn.names ≡ drawn.net.events → All IsName drawn.names → NamesDiffer drawn
    → file_of files file ≡ Some (redrawn drawn row times)
    → (again : Drawn) × (end_over files (design_at file) ≡ ready again) × IsRedrawn (stands_drawn drawn row times) asked.from asked.to ends again

-- a separation is past an end of a range, and the end is not the widest that an end may be
abbrev pub IsPastEnd : Ends → ℤ → Type 0
IsPastEnd ends apart = IsSomeAnd ends.high (λ high. IsInnerHigh high × (high <ℤ apart)) ⊎ IsSomeAnd ends.low (λ low. IsInnerLow low × (apart <ℤ low))

-- if the times that were drawn are past such an end of what the row demands, all times that satisfy what is read break that demand
abbrev pub RedrawnBreaks : Type 0
RedrawnBreaks =
    (drawn : Drawn) (row : ℕ) (asked : Row) (ends : Ends) (times : List ℤ) (again : Drawn)
    → slice_get drawn.rows row ≡ Some asked → IsRowOf drawn.net asked → length times ≡ drawn.net.events → IsPastEnd ends (separation times asked.from asked.to)
    → IsRedrawn (stands_drawn drawn row times) asked.from asked.to ends again
    → (others : List ℤ) → Satisfies others again.net
    → Allows ends (separation others (row_again (stands_drawn drawn row times) asked.from asked.to ends).from (row_again (stands_drawn drawn row times) asked.from asked.to ends).to) → ⊥
