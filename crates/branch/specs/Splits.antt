-- The constraints that a case can be split on.
use Rattle.std.specs.Prelude.{◌≡◌, ◌<◌, ℕ, List, length, All, AllPairs, Contains, Some, option_map, slice_get}
use Rattle.event_graph.specs.Network.{Net, cause_count_of}
use Rattle.branch.specs.declared.choice_edge.ChoiceEdge.{ChoiceEdge}
use Rattle.branch.specs.ChoiceEdges.{IsChoiceEdge}
use Rattle.branch.specs.Step.Cases.{IsSplittable}

-- a constraint with two or more causes as the search keeps it: its number, and the choice edges of its causes in their order
pub record SplittableView : Type 0 where
  pub number : ℕ
  pub edges : List ChoiceEdge

-- the edges are the choice edges of the constraint of this number, one for each cause
pub record HasChoiceEdges (net : Net) (s : SplittableView) : Type 0 where
  pub count : option_map cause_count_of (slice_get net.constraints s.number) ≡ Some (length s.edges)
  pub each : (cause : ℕ) (c : ChoiceEdge) → slice_get s.edges cause ≡ Some c → IsChoiceEdge net s.number cause c

-- it is a constraint of the network with two or more causes
pub record IsSplitOf (net : Net) (s : SplittableView) : Type 0 where
  pub causes : IsSplittable (slice_get net.constraints s.number)
  pub edges : HasChoiceEdges net s

-- some splitting in the list has this number
abbrev pub HasNumber : List SplittableView → ℕ → Type 0
HasNumber splits number = (s : SplittableView) × Contains splits s × (s.number ≡ number)

-- the numbers ascend
abbrev pub AreAscending : List SplittableView → Type 0
AreAscending = AllPairs (λ (s t : SplittableView). s.number < t.number)

-- the list has the constraints with two or more causes, given by their numbers
pub record AreSplits (net : Net) (splits : List SplittableView) : Type 0 where
  pub each : All (IsSplitOf net) splits
  pub all : (number : ℕ) → IsSplittable (slice_get net.constraints number) → HasNumber splits number
  pub ascending : AreAscending splits
