-- Words of private contracts.
use Rattle.std.specs.Prelude.{◌≡◌, ◌<◌, ◌⊎◌, ◌↔◌, [], ℕ, ℤ, ◌≤ℤ◌, ◌<ℤ◌, Bool, true, false, List, All, Contains, length, map, Option, Some, IfSome, IsSome, slice_get}
use Rattle.std.specs.Global.{Vec}
use Rattle.std.specs.HashMap.{get, HashMap}
use Rattle.std.specs.declared.hash.FoldHasher.{FoldHasher}
use Rattle.std.specs.declared.hash.BuildHasherDefault.{BuildHasherDefault}
use Rattle.itv_base.specs.declared.names.EdgeName.{EdgeName}
use Rattle.itv_base.specs.declared.names.Side.{Side}
use Rattle.itv_base.specs.declared.names.Side.TheVariants.{Lower, Upper}
use Rattle.origin.specs.declared.origin.Origin.{Origin}
use Rattle.origin.specs.declared.origin.Origin.TheVariants as origins
use Rattle.event_graph.specs.declared.edge.Edge.{Edge}
use Rattle.event_graph.specs.Edges.{edge}
use Rattle.event_graph.specs.Network.{Net}
use Rattle.event_graph.specs.Satisfying.{Satisfies}
use Rattle.event_graph.specs.Times.{separation}
use Rattle.drawn_networks.specs.Drawn.{Drawn}
use Rattle.narrow_ends.specs.declared.end.EndFound.{EndFound}
use Rattle.narrow_ends.specs.declared.end.EndFound.TheVariants.{Narrow, Open, Wide}
use Rattle.narrow_ends.specs.declared.end.RangeEnd.{RangeEnd}
use Rattle.narrow_ends.specs.declared.found_times.FoundTimes.{FoundTimes}
use Rattle.narrow_ends.specs.declared.source.EndKey.{EndKey}
use Rattle.narrow_ends.specs.declared.source.Thing.{Thing}
use Rattle.narrow_ends.specs.declared.source.Thing.TheVariants as things
use Rattle.narrow_ends.specs.contracts.source.EndKeyPartialEq.TheImpl as source_eq
use Rattle.narrow_ends.specs.Ends.{EndSource, cause_count, source_at, with_ends}
use Rattle.narrow_ends.specs.Narrow.{IsFoundAmong, IsNeverBeyond, IsAttainable, IsEndSettled}

-- the constraint and the cause of a name are there, and its end is not open
pub record HasEnd (drawn : Drawn) (name : EdgeName) : Type 0 where
  pub constraint : name.constraint < length drawn.net.constraints
  pub cause : name.cause < cause_count drawn name.constraint
  pub edge : IsSome (edge drawn.net name)

-- ---- what draws an end, as a key

abbrev pub origin_of : Thing → Origin
origin_of (things.Lane n) = origins.Lane n
origin_of (things.Edge n) = origins.Edge n
origin_of (things.Pin net pin) = origins.Pin net pin
origin_of (things.Wire n) = origins.Wire n

abbrev pub side_of : Bool → Side
side_of true = Upper
side_of false = Lower

-- what a key says
abbrev pub key_view : EndKey → EndSource
key_view key = record { side = side_of key.is_upper; origin = Some (origin_of key.thing); part = Some key.part.now }

abbrev pub same_end_key : EndKey → EndKey → Bool
same_end_key = (source_eq.ghosts).eq

-- where the end of each thing stands
abbrev pub EndPlaces : Type 0
EndPlaces = HashMap EndKey ℕ (BuildHasherDefault FoldHasher)

abbrev pub place_of : EndPlaces → EndKey → Option ℕ
place_of places key = get same_end_key places key

-- each place is less than the number of ends
abbrev pub AreEndPlaces : EndPlaces → ℕ → Type 0
AreEndPlaces places count = (key : EndKey) → IfSome (place_of places key) (λ place. place < count)

-- ---- satisfying times

-- times have a separation along an edge of at least its weight
abbrev pub HasWeight : Edge → Vec ℤ → Type 0
HasWeight e times = e.weight ≤ℤ separation times.items e.from e.to

-- all kept times satisfy the network
abbrev pub AreFoundTimes : Net → FoundTimes → Type 0
AreFoundTimes net found = All (λ (times : Vec ℤ). Satisfies times.items net) found.kept.items

-- ---- what is found of ends

-- What is found along one edge, after the greatest separation so far, if there was one: of the edges so far none goes beyond it. The numbers stay
-- below the weight.
abbrev pub IsSearched : Net → Edge → ℤ → Option ℤ → EndFound → Type 0
IsSearched net e weight so_far (Narrow only) =
    (IfSome so_far (λ z. z <ℤ weight) → only <ℤ weight)
    × IfSome so_far (λ z. z ≤ℤ only)
    × IsNeverBeyond net only e
    × ((so_far ≡ Some only) ⊎ IsAttainable net only e)
IsSearched net e weight so_far Wide = IsAttainable net weight e
IsSearched net e weight so_far Open = Unit {0}

-- what is found of an end is right among some ends
pub record IsEndAmong (drawn : Drawn) (ends : List EdgeName) (end : RangeEnd) : Type 0 where
  pub there : edge drawn.net end.name ≡ Some end.edge
  pub found : IsFoundAmong drawn ends end.name end.edge.weight end.found

abbrev pub names_of : List RangeEnd → List EdgeName
names_of ends = map (λ (end : RangeEnd). end.name) ends

-- what draws each of some ends
abbrev pub sources_of : Drawn → List RangeEnd → List EndSource
sources_of drawn ends = map (λ (end : RangeEnd). source_at drawn end.name) ends

-- what is found of an end, with one edge more: a narrow end was searched on, and another one stays as it was
abbrev pub IsFoundOn : Net → Edge → ℤ → EndFound → EndFound → Type 0
IsFoundOn net e weight (Narrow only) found = IsSearched net e weight (Some only) found
IsFoundOn net e weight Wide found = found ≡ Wide
IsFoundOn net e weight Open found = found ≡ Open

-- an end, with what is found along one edge more
pub record IsLookedOn (net : Net) (e : Edge) (end next : RangeEnd) : Type 0 where
  pub name : next.name ≡ end.name
  pub edge : next.edge ≡ end.edge
  pub found : IsFoundOn net e end.edge.weight end.found next.found

-- no end was left open
abbrev pub AreEndsSettled : List RangeEnd → Type 0
AreEndsSettled ends = All (λ (end : RangeEnd). IsEndSettled end.found) ends

-- The ends of some names, in the order of their first places. The table has the place of each. Each name has an end that the same thing draws. What is
-- found of them is right among these names.
pub record Stand (drawn : Drawn) (names : List EdgeName) (places : EndPlaces) (ends : List RangeEnd) : Type 0 where
  pub order : names_of ends ≡ with_ends drawn [] names
  pub table : (key : EndKey) (place : ℕ) → (place_of places key ≡ Some place) ↔ (slice_get (sources_of drawn ends) place ≡ Some (key_view key))
  pub covers : All (λ name. Contains (sources_of drawn ends) (source_at drawn name)) names
  pub found : All (IsEndAmong drawn names) ends
