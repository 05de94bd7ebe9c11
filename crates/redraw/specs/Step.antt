-- Words of contracts within this crate.
use Rattle.std.specs.Prelude.{◌≡◌, ◌<◌, ◌≤◌, ◌-◌, ℕ, ℤ, pos, ◌-ℤ◌, ◌≤ℤ◌, int_lt, min, Bool, not, List, [], ◌∷◌, ◌++◌, length, map, take, replicate, codes}
use Rattle.std.specs.List.{flat_map}
use Rattle.itv_base.specs.declared.names.EventId.{EventId}
use Rattle.itv_base.specs.Numerals.{number_text}
use Rattle.itv_base.specs.declared.row_kind.RowKind.{RowKind}
use Rattle.itv_base.specs.declared.row_kind.RowKind.TheVariants as asked
use Rattle.redraw.specs.declared.drawn_event.DrawnEvent.{DrawnEvent}
use Rattle.redraw.specs.declared.drawn_event.Timed.{Timed}
use Rattle.redraw.specs.declared.drawn_event.TheConstants.{MOST_DRAWN}
use Rattle.redraw.specs.Narrowing.{widest_gap}
use Rattle.redraw.specs.Order.{in_order, timed_at}
use Rattle.redraw.specs.Text.{escaped, escaped_byte, quoted}

abbrev pub comes_by : Timed → Timed → Bool
comes_by x y = not (int_lt x.time y.time)

-- the first places hold the first of some events, as many as are drawn, in order of time
pub record HoldsFirst (times : List ℤ) (timed : List Timed) (count : ℕ) (events : List EventId) : Type 0 where
  pub room : length timed ≡ MOST_DRAWN
  pub few : count ≡ min MOST_DRAWN (length events)
  pub items : take count timed ≡ in_order (map (timed_at times) (take MOST_DRAWN events))

-- ---- in order

-- each event comes no earlier than the event before it
abbrev pub Follow : Timed → List Timed → Type 0
Follow last [] = Unit {0}
Follow last (x ∷ xs) = (last.time ≤ℤ x.time) × Follow x xs

abbrev pub AreInOrder : List Timed → Type 0
AreInOrder [] = Unit {0}
AreInOrder (x ∷ xs) = Follow x xs

-- ---- where events stand

-- the event is one of so many, its number has a mark, and its place is from 1 to `MOST_DRAWN`
pub record IsStand (events : ℕ) (s : DrawnEvent) : Type 0 where
  pub event : s.event.0 < events
  pub number : s.number < MOST_DRAWN
  pub least : 1 ≤ s.place
  pub most : s.place ≤ MOST_DRAWN

-- each event stands after the event before it, by no more than the greatest gap that is kept
abbrev pub AreNear : DrawnEvent → List DrawnEvent → Type 0
AreNear before [] = Unit {0}
AreNear before (s ∷ ss) = (pos 0 ≤ℤ (s.time -ℤ before.time)) × ((s.time -ℤ before.time) ≤ℤ pos widest_gap) × AreNear s ss

abbrev pub StandNear : List DrawnEvent → Type 0
StandNear [] = Unit {0}
StandNear (s ∷ ss) = AreNear s ss

-- ---- pieces of texts

abbrev pub mark_and_cycle : ℕ → ℕ → List ℕ
mark_and_cycle mark cycle = (codes "." ++ escaped_byte mark) ++ 64 ∷ number_text cycle

-- a lane up to the end of its name
abbrev pub lane_front : List ℕ → List ℕ
lane_front name = codes "{\"name\":\"" ++ escaped name

-- the wave of a lane, and its node up to the mark
abbrev pub lane_wave : ℕ → List ℕ
lane_wave place = codes "\",\"wave\":\"0" ++ (replicate (place - 1) 46 ++ (codes "1\",\"node\":\"" ++ replicate place 46))

abbrev pub lane_end : ℕ → List ℕ
lane_end mark = escaped_byte mark ++ codes "\"}"

-- an edge up to its label
abbrev pub edge_front : ℕ → ℕ → List ℕ
edge_front from to = (codes "\"" ++ escaped_byte from) ++ (codes "->" ++ escaped_byte to)

-- texts in quotation marks, each with a comma after it
abbrev pub steps_text : List (List ℕ) → List ℕ
steps_text edges = flat_map (λ (edge : List ℕ). quoted edge ++ codes ",") edges

-- ---- rows

-- the row demands a range
abbrev pub IsDemand : RowKind → Type 0
IsDemand asked.Ask = ⊥
IsDemand (asked.Req ends) = Unit {0}
