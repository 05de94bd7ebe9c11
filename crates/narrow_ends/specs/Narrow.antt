-- Ends of ranges that no satisfying times attain.
use Rattle.std.specs.Prelude.{◌≡◌, ℤ, ◌≤ℤ◌, ◌<ℤ◌, IsTrue, List, Contains, Some}
use Rattle.itv_base.specs.declared.names.EdgeName.{EdgeName}
use Rattle.event_graph.specs.declared.edge.Edge.{Edge}
use Rattle.event_graph.specs.Edges.{edge}
use Rattle.event_graph.specs.Network.{Net}
use Rattle.event_graph.specs.Satisfying.{Satisfies}
use Rattle.event_graph.specs.Times.{separation}
use Rattle.drawn_networks.specs.Drawn.{Drawn}
use Rattle.narrow_ends.specs.declared.end.EndFound.{EndFound}
use Rattle.narrow_ends.specs.declared.end.EndFound.TheVariants.{Narrow, Open, Wide}
use Rattle.narrow_ends.specs.declared.end.RangeEnd.{RangeEnd}
use Rattle.narrow_ends.specs.Ends.{all_ends, are_alike}

-- no satisfying times have a separation along the edge of more than this
abbrev pub IsNeverBeyond : Net → ℤ → Edge → Type 0
IsNeverBeyond net value e = (times : List ℤ) → Satisfies times net → separation times e.from e.to ≤ℤ value

-- some satisfying times have a separation along the edge of at least this
abbrev pub IsAttainable : Net → ℤ → Edge → Type 0
IsAttainable net value e = (times : List ℤ) × Satisfies times net × (value ≤ℤ separation times e.from e.to)

-- an edge of one of some ends, which the same thing draws as the end with a name
pub record IsAlikeEdge (drawn : Drawn) (ends : List EdgeName) (name : EdgeName) (e : Edge) : Type 0 where
  pub other : EdgeName
  pub among : Contains ends other
  pub alike : IsTrue (are_alike drawn name other)
  pub there : edge drawn.net other ≡ Some e

-- what is found of an end with a weight, among some ends
abbrev pub IsFoundAmong : Drawn → List EdgeName → EdgeName → ℤ → EndFound → Type 0
IsFoundAmong drawn ends name weight (Narrow only) =
    (only <ℤ weight)
    × ((e : Edge) → IsAlikeEdge drawn ends name e → IsNeverBeyond drawn.net only e)
    × ((e : Edge) × IsAlikeEdge drawn ends name e × IsAttainable drawn.net only e)
IsFoundAmong drawn ends name weight Wide = (e : Edge) × IsAlikeEdge drawn ends name e × IsAttainable drawn.net weight e
IsFoundAmong drawn ends name weight Open = Unit {0}

-- What is found of an end is right. A narrow end: in every cycle and place that the same thing draws, no satisfying times have a separation of more than
-- `only`, which is below its weight; and some attain it. A wide end: in one of them some satisfying times attain the weight.
pub record IsEndFound (drawn : Drawn) (end : RangeEnd) : Type 0 where
  pub there : edge drawn.net end.name ≡ Some end.edge
  pub found : IsFoundAmong drawn (all_ends drawn) end.name end.edge.weight end.found

-- an end was not left open
abbrev pub IsEndSettled : EndFound → Type 0
IsEndSettled (Narrow only) = Unit {0}
IsEndSettled Wide = Unit {0}
IsEndSettled Open = ⊥
