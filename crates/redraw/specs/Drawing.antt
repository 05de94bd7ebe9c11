-- The drawing of a counterexample: a lane for each drawn event, in order of time, and edges that fix the times.
use Rattle.std.specs.Prelude.{ℕ, ◌+◌, ◌-◌, ◌==◌, ℤ, pos, ◌+ℤ◌, ◌-ℤ◌, int_lt, if◌then◌else◌, List, [], ◌∷◌, ◌++◌, map, replicate, codes, slice_get, slice_index, Some, None, unwrap_or}
use Rattle.itv_base.specs.declared.names.EventId.{EventId}
use Rattle.itv_base.specs.Names.{Name}
use Rattle.itv_base.specs.Range.{Ends}
use Rattle.label_grammar.specs.declared.label.Kind.{Kind}
use Rattle.label_grammar.specs.declared.label.Kind.TheVariants.{Lin, Req}
use Rattle.label_grammar.specs.Label.{LooseLabel, ends_text, spelled}
use Rattle.itv_base.specs.declared.row_kind.RowKind.{RowKind}
use Rattle.itv_base.specs.declared.row_kind.RowKind.TheVariants as asked
use Rattle.slack_report.specs.Text.{name_word}
use Rattle.origin.specs.declared.origin.Origin.TheVariants.{Edge}
use Rattle.drawn_networks.specs.declared.row.Row.{Row}
use Rattle.drawn_networks.specs.Drawn.{Drawn, name_of}
use Rattle.redraw.specs.declared.drawn_event.DrawnEvent.{DrawnEvent}
use Rattle.redraw.specs.declared.drawn_event.Timed.{Timed}
use Rattle.redraw.specs.Narrowing.{lesser, narrowed, widest_gap}
use Rattle.redraw.specs.Order.{ordered_events}

-- the marks, in the order in which events get them: letters, digits, and then all other visible ASCII characters but the full stop
abbrev pub marks : List ℕ
marks = codes "abcdefghijklmnopqrstuvwxyzABCDEFGHIJKLMNOPQRSTUVWXYZ0123456789!\"#$%&'()*+,-/:;<=>?@[\\]^_`{|}~"

abbrev pub mark_at : ℕ → ℕ
mark_at number = slice_index marks number

-- ---- where events stand

abbrev pub first_stand : Timed → DrawnEvent
first_stand x = record { event = x.event; number = 0; place = 1; time = pos 0 }

-- The event after another one. Its place is one further if it comes later. Its drawn time is later by the same gap, but at most by the greatest
-- gap that is kept.
abbrev pub next_stand : Timed → DrawnEvent → Timed → DrawnEvent
next_stand last before x = record {
  event = x.event;
  number = before.number + 1;
  place = if int_lt last.time x.time then before.place + 1 else before.place;
  time = before.time +ℤ lesser (x.time -ℤ last.time) (pos widest_gap);
}

abbrev pub stands_after : Timed → DrawnEvent → List Timed → List DrawnEvent
stands_after last before [] = []
stands_after last before (x ∷ xs) = next_stand last before x ∷ stands_after x (next_stand last before x) xs

-- where events in order of time stand
abbrev pub stands_of : List Timed → List DrawnEvent
stands_of [] = []
stands_of (x ∷ xs) = first_stand x ∷ stands_after x (first_stand x) xs

-- the drawn times in order
abbrev pub drawn_times : List DrawnEvent → List ℤ
drawn_times stands = map (λ (s : DrawnEvent). s.time) stands

-- the number of an event among the drawn events
abbrev pub number_in : List DrawnEvent → EventId → ℕ
number_in [] e = 0
number_in (s ∷ ss) e = if s.event.0 == e.0 then s.number else number_in ss e

-- the drawn time of an event
abbrev pub time_in : List DrawnEvent → EventId → ℤ
time_in [] e = pos 0
time_in (s ∷ ss) e = if s.event.0 == e.0 then s.time else time_in ss e

-- ---- lanes and edges

pub record Lane : Type 0 where
  pub name : List ℕ
  pub wave : List ℕ
  pub node : List ℕ

-- a lane that rises at a place, with a mark there
abbrev pub rising_lane : List ℕ → ℕ → ℕ → Lane
rising_lane name place mark = record {
  name = name;
  wave = codes "0" ++ (replicate (place - 1) 46 ++ codes "1");
  node = replicate place 46 ++ mark ∷ [];
}

abbrev pub lane_of : (EventId → Name) → DrawnEvent → Lane
lane_of name s = rising_lane (name_word (name s.event)) s.place (mark_at s.number)

abbrev pub range_label : Kind → Ends → LooseLabel Ends
range_label kind ends = record { kind = kind; shift = 0; tag = None; ends = Some ends; note = None }

-- an edge from a mark to a mark
abbrev pub edge_text : ℕ → ℕ → LooseLabel Ends → List ℕ
edge_text from to label = from ∷ (codes "->" ++ (to ∷ (codes " " ++ spelled ends_text label)))

abbrev pub exactly : ℤ → Ends
exactly distance = record { low = Some distance; high = Some distance }

-- the edge that keeps two events apart as they are drawn
abbrev pub step_edge : DrawnEvent → DrawnEvent → List ℕ
step_edge before s = edge_text (mark_at before.number) (mark_at s.number) (range_label Lin (exactly (s.time -ℤ before.time)))

-- an edge for each two neighbours in order of time
abbrev pub step_edges : DrawnEvent → List DrawnEvent → List (List ℕ)
step_edges before [] = []
step_edges before (s ∷ ss) = step_edge before s ∷ step_edges s ss

abbrev pub steps_of : List DrawnEvent → List (List ℕ)
steps_of [] = []
steps_of (s ∷ ss) = step_edges s ss

-- the edge for what the row demands
abbrev pub demand_edge : List DrawnEvent → EventId → EventId → Ends → List ℕ
demand_edge stands from to ends = edge_text (mark_at (number_in stands from)) (mark_at (number_in stands to)) (range_label Req ends)

pub record Sketch : Type 0 where
  pub lanes : List Lane
  pub edges : List (List ℕ)

abbrev pub sketch_of : (EventId → Name) → EventId → EventId → Ends → List DrawnEvent → Sketch
sketch_of name from to ends stands = record {
  lanes = map (lane_of name) stands;
  edges = steps_of stands ++ demand_edge stands from to ends ∷ [];
}

-- ---- of a row

-- what a row demands; an ask demands nothing
abbrev pub demand_of : RowKind → Ends
demand_of asked.Ask = record { low = None; high = None }
demand_of (asked.Req ends) = ends

abbrev pub nowhere : Row
nowhere = record { kind = asked.Ask; from = record { 0 = 0 }; to = record { 0 = 0 }; origin = Edge 0 }

abbrev pub row_at : Drawn → ℕ → Row
row_at drawn row = unwrap_or (slice_get drawn.rows row) nowhere

-- where the drawn events of a row stand at some times
abbrev pub row_stands : ℕ → Row → List ℤ → List DrawnEvent
row_stands events row times = stands_of (ordered_events row.from row.to events times)

-- where the drawn events of a row stand at the narrowed times
abbrev pub stands_drawn : Drawn → ℕ → List ℤ → List DrawnEvent
stands_drawn drawn row times = row_stands drawn.net.events (row_at drawn row) (narrowed widest_gap times)

-- the drawing of a row at some times
unfoldable pub sketched : Drawn → ℕ → List ℤ → Sketch
sketched drawn row times =
    sketch_of (name_of drawn) (row_at drawn row).from (row_at drawn row).to (demand_of (row_at drawn row).kind) (stands_drawn drawn row times)
