-- Which constraints with two or more causes the times break, and which they meet, according to their choice edges.
use Rattle.std.specs.Prelude.{◌≡◌, ◌<◌, ℕ, ℤ, List, length, All, Any, IfSome, IsSomeAnd, slice_get, slice_index_or}
use Rattle.std.specs.List.{AllWithin}
use Rattle.event_graph.specs.declared.edge.Edge.{Edge}
use Rattle.event_graph.specs.Edges.{Meets}
use Rattle.event_graph.specs.Network.{Net}
use Rattle.event_graph.specs.Satisfying.{Holds}
use Rattle.branch.specs.declared.choice_edge.ChoiceEdge.{ChoiceEdge}
use Rattle.branch.specs.ChoiceEdges.{given_edge}
use Rattle.branch.specs.Splits.{SplittableView}

-- both ends of a choice edge are among so many events
pub record IsBetween (events : ℕ) (c : ChoiceEdge) : Type 0 where
  pub from : c.from.0 < events
  pub to : c.to.0 < events

-- the times break it
abbrev pub IsEdgeBroken : List ℤ → ChoiceEdge → Type 0
IsEdgeBroken times c = IsSomeAnd (given_edge c) (λ (e : Edge). Meets times e → ⊥)

-- the times meet it, or it is open
abbrev pub IsEdgeMet : List ℤ → ChoiceEdge → Type 0
IsEdgeMet times c = IfSome (given_edge c) (Meets times)

-- the ends of all choice edges of some constraints are among so many events
abbrev pub AreBetween : ℕ → List SplittableView → Type 0
AreBetween events splits = All (λ (s : SplittableView). All (IsBetween events) s.edges) splits

-- the times break all choice edges
abbrev pub BreaksEach : List ℤ → SplittableView → Type 0
BreaksEach times s = All (IsEdgeBroken times) s.edges

-- the times meet some choice edge, or one is open
abbrev pub MeetsSome : List ℤ → SplittableView → Type 0
MeetsSome times s = Any (IsEdgeMet times) s.edges

-- this is the number of the first constraint in the list whose choice edges the times all break
pub record IsFirstBrokenSplit (times : List ℤ) (splits : List SplittableView) (number : ℕ) : Type 0 where
  pub place : ℕ
  pub within : place < length splits
  pub broken : (d : SplittableView) → ((slice_index_or splits place d).number ≡ number) × BreaksEach times (slice_index_or splits place d)
  pub earlier : AllWithin (MeetsSome times) splits 0 place

-- the times meet the constraint of a number, if it is there
abbrev pub IsMetAt : List ℤ → Net → ℕ → Type 0
IsMetAt times net number = IfSome (slice_get net.constraints number) (Holds times)
