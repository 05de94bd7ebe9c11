-- Which constraints are wanted.
use Rattle.std.specs.Prelude.{◌≡◌, ℕ, List, length, All, Contains, None}
use Rattle.event_graph.specs.Cases.{cause_chosen}
use Rattle.event_graph.specs.Proof.{Case}
use Rattle.event_graph.specs.Times.{IsTime}
use Rattle.branch.specs.declared.distances.SearchTarget.{SearchTarget}
use Rattle.branch.specs.declared.distances.SearchTarget.TheVariants.{Broken, Open}
use Rattle.branch.specs.Splits.{HasNumber, SplittableView}
use Rattle.branch.specs.Step.Breaking.{AreBetween, BreaksEach}

-- if broken constraints are wanted, their choice edges can be read against the times
abbrev pub CanLookFor : SearchTarget → List SplittableView → Type 0
CanLookFor (Broken times) splits = All IsTime times.now × AreBetween (length times.now) splits
CanLookFor Open splits = Unit {0}

-- the constraint of this number is in the list and is wanted: if broken constraints are wanted, the times break all its choice edges
abbrev pub IsWanted : SearchTarget → List SplittableView → ℕ → Type 0
IsWanted (Broken times) splits number = (s : SplittableView) × Contains splits s × (s.number ≡ number) × BreaksEach times.now s
IsWanted Open splits number = HasNumber splits number

-- a wanted constraint without a chosen cause
abbrev pub IsTargetFound : SearchTarget → List SplittableView → Case → ℕ → Type 0
IsTargetFound wanted splits chosen number = IsWanted wanted splits number × (cause_chosen chosen number ≡ None)
