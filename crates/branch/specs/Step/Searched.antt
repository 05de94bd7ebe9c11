-- What a search has reached between two of its steps.
use Rattle.std.specs.Prelude.{◌≡◌, ◌+◌, ◌<◌, ◌≤◌, ◌≤ℤ◌, ◌<ℤ◌, ℕ, ℤ, Bool, List, [], ◌∷◌, ◌++◌, length, All, Option, Some, None}
use Rattle.itv_base.specs.declared.names.EventId.{EventId}
use Rattle.event_graph.specs.Bounds.{IsGreatestAmong, IsRay}
use Rattle.event_graph.specs.Network.{Net}
use Rattle.event_graph.specs.Proof.{Bound, Case, Loop, Nothing, Path, ProofGoal, ProofLine, ProofLeaves, Split, closing_lines}
use Rattle.event_graph.specs.Satisfying.{Breaks, Satisfies}
use Rattle.event_graph.specs.Times.{separation}
use Rattle.event_graph.specs.Usable.{MeetsUsable}
use Rattle.event_graph.specs.Reading.{AtEachSplit}
use Rattle.branch.specs.Answers.{PairSearch}
use Rattle.branch.specs.Work.{IsClose}
use Rattle.branch.specs.Needed.{IsNeededToBound, IsNeededToFind}
use Rattle.branch.specs.Splits.{AreSplits}
use Rattle.event_graph.specs.Cases.{open_cases, siblings}
use Rattle.branch.specs.Step.Cases.{IsFree, IsSearchCase}
use Rattle.diff_bounds.specs.Limits.{IsTimely}
use Rattle.branch.specs.Step.Raising.{IsNearSeparation}
use Rattle.branch.specs.Step.Standing.{AreOfSame, HasUpper, StandsBelow, StandsOn}
use Rattle.branch.specs.declared.best.Aim.{Aim}
use Rattle.branch.specs.declared.best.Best.{Best}
use Rattle.branch.specs.declared.bounding.Ending.{Ending}
use Rattle.branch.specs.declared.bounding.Ending.TheVariants.{Shown, Ended, Raised}
use Rattle.branch.specs.declared.look.Look.{Look}
use Rattle.branch.specs.declared.look.Look.TheVariants.{Beaten, Attained, Splits, Unbounded}
use Rattle.branch.specs.declared.search.NextCase.{NextCase}
use Rattle.branch.specs.declared.search.NextCase.TheVariants.{Entered, AllClosed, Stopped}
use Rattle.branch.specs.declared.search.Search.{Search}
use Rattle.branch.specs.declared.trial.Trial.{Trial}

-- the search for the greatest separation of the pair of an aim
abbrev pub aimed : Net → Aim → ℕ → PairSearch
aimed net aim budget = record { net = net; from = aim.from; to = aim.to; budget = budget }

-- a search is at a case: the bounds stand on it, there is room for every split, and the budget is not used up
pub record IsAtCase (net : Net) (s : Search) : Type 0 where
  pub case : IsSearchCase net s.cases.chosen
  pub stands : StandsOn net s.cases.chosen s.bounds
  pub room : length net.constraints ≤ s.cases.room
  pub left : s.leaves < s.budget

-- a search reaches a case: the bounds stand on all its choices but the latest, there is room for every split, and the budget is not used up
pub record IsBelowCase (net : Net) (s : Search) : Type 0 where
  pub case : IsSearchCase net s.cases.chosen
  pub below : StandsBelow net s.cases.chosen s.bounds
  pub room : length net.constraints ≤ s.cases.room
  pub left : s.leaves < s.budget

-- a step keeps what the search was made for
pub record Keeps (net : Net) (before now : Search) : Type 0 where
  pub room : now.cases.room ≡ before.cases.room
  pub budget : now.budget ≡ before.budget
  pub bounds : AreOfSame net before.bounds now.bounds

-- how an entry ends: the search is at a case, or no case is left, or the budget is used up
abbrev pub EndsAs : Net → Search → NextCase → Type 0
EndsAs net s Entered = IsAtCase net s
EndsAs net s AllClosed = s.leaves ≤ s.budget
EndsAs net s Stopped = s.leaves ≡ s.budget

-- the cases that are open after an entry
abbrev pub left_after : Net → Case → NextCase → List Case
left_after net now Entered = open_cases net now
left_after net now AllClosed = []
left_after net now Stopped = open_cases net now

-- the search reaches the next case: it and its siblings are the siblings of the case before
pub record IsNext (net : Net) (before now : Search) : Type 0 where
  pub same : siblings net before.cases.chosen ≡ open_cases net now.cases.chosen
  pub some : 0 < length now.cases.chosen
  pub case : IsSearchCase net now.cases.chosen
  pub below : StandsBelow net now.cases.chosen now.bounds

-- how the search leaves a closed case: for a next one, or for good
abbrev pub LeavesFor : Net → Search → Search → Option NextCase → Type 0
LeavesFor net before now None = IsNext net before now × (now.leaves < now.budget)
LeavesFor net before now (Some Entered) = ⊥
LeavesFor net before now (Some AllClosed) = siblings net before.cases.chosen ≡ []
LeavesFor net before now (Some Stopped) = (siblings net before.cases.chosen ≡ open_cases net now.cases.chosen) × (now.leaves ≡ now.budget)

-- the line closes a case
abbrev pub IsClosing : ProofLine → Type 0
IsClosing (Split number) = ⊥
IsClosing (Path names) = Unit {0}
IsClosing (Loop names) = Unit {0}

-- each line closes a case, and the lines lead from some open cases to others
pub record ClosesCases (net : Net) (goal : ProofGoal) (cases left : List Case) (lines : List ProofLine) : Type 0 where
  pub reads : ProofLeaves net goal cases lines left
  pub closing : All IsClosing lines

-- the lines close cases on the way to an entry, and each of them is counted
pub record SearchSteps (net : Net) (goal : ProofGoal) (cases : List Case) (before : ℕ) (now : Search) (entry : NextCase) (lines : List ProofLine) : Type 0 where
  pub closes : ClosesCases net goal cases (left_after net now.cases.chosen entry) lines
  pub count : now.leaves ≡ before + closing_lines lines

-- A failure cut these lines short at the last one. Each was right and closes a case, and no more cases are counted than the lines close.
pub record StepsShort (net : Net) (goal : ProofGoal) (cases : List Case) (before : ℕ) (now : Search) (lines : List ProofLine) : Type 0 where
  pub left : List Case
  pub closes : ClosesCases net goal cases left lines
  pub count : now.leaves ≤ before + closing_lines lines

-- the lines so far leave just these cases open and closed this number of others, and each split was needed
pub record IsSearchedSoFar (net : Net) (goal : ProofGoal) (IsNeeded : List ProofLine → Case → ℕ → Type 0) (lines : List ProofLine) (cases : List Case) (closed : ℕ) : Type 0 where
  pub reads : ProofLeaves net goal ([] ∷ []) lines cases
  pub needed : AtEachSplit net IsNeeded lines
  pub count : closing_lines lines ≡ closed

-- The constraint can be split in the case, and some times that meet the usable edges go beyond the best separation. If those edges allow a
-- greatest separation, some times that attain it break the constraint.
pub record IsOpen (net : Net) (from to : EventId) (best : ℤ) (chosen : Case) (number : ℕ) : Type 0 where
  pub free : IsFree net chosen number
  pub beyond : (times : List ℤ) × MeetsUsable net chosen times × (best <ℤ separation times from to)
  pub broken : (greatest : ℤ) → IsGreatestAmong (λ times. MeetsUsable net chosen times) from to greatest
      → (times : List ℤ) × MeetsUsable net chosen times × (separation times from to ≡ greatest) × Breaks times net number

-- there is an entry for each event, and the constraints with two or more causes are known
pub record IsTrialFor (net : Net) (trial : Trial) : Type 0 where
  pub candidate : length trial.candidate.items ≡ net.events
  pub ray : length trial.ray.items ≡ net.events
  pub splits : AreSplits net trial.distances

-- what a look at a case finds, from the best separation so far and the separation that the search started from
abbrev pub Looks : Net → Aim → ℤ → Search → Trial → Look → Type 0
Looks net aim best s trial Beaten = (value : ℤ) × HasUpper s.bounds aim.to value × (value ≤ℤ best)
Looks net aim best s trial (Attained value) =
    HasUpper s.bounds aim.to value × (best <ℤ value) × Satisfies trial.candidate.items net × (separation trial.candidate.items aim.from aim.to ≡ value)
    × All IsTimely trial.candidate.items
Looks net aim best s trial (Splits number) = IsOpen net aim.from aim.to best s.cases.chosen number
Looks net aim best s trial Unbounded =
    Satisfies trial.candidate.items net × IsRay net aim.from aim.to trial.candidate.items trial.ray.items
    × (aim.known ≤ℤ separation trial.candidate.items aim.from aim.to) × All IsClose trial.candidate.items

-- the lines of a search for a bound have shown this value in the closed cases
abbrev pub IsBoundSearched : Net → Aim → ℤ → List ProofLine → List Case → ℕ → Type 0
IsBoundSearched net aim best lines cases closed =
    IsSearchedSoFar net (Bound aim.from aim.to best) (IsNeededToBound net aim.from aim.to aim.known) lines cases closed

-- the best times satisfy and attain the best separation, which is at least the known one
pub record IsBestSoFar (net : Net) (aim : Aim) (best : Best) : Type 0 where
  pub satisfies : Satisfies best.times.items net
  pub attained : separation best.times.items aim.from aim.to ≡ best.value
  pub least : aim.known ≤ℤ best.value
  pub near : IsNearSeparation best.value
  pub close : All IsClose best.times.items

-- satisfying times that can be raised without end; their separation is at least the known one
pub record AreRays (net : Net) (aim : Aim) (times : List ℤ) (ray : List Bool) : Type 0 where
  pub satisfies : Satisfies times net
  pub raises : IsRay net aim.from aim.to times ray
  pub least : aim.known ≤ℤ separation times aim.from aim.to
  pub close : All IsClose times

-- the state of a search for a bound, and the best times so far
pub record Progress : Type 0 where
  pub search : Search
  pub best : Best

-- the result of a step of the search for a bound: the next case is entered, or the search ends, or the pair is unbounded
abbrev pub Advances : Net → Aim → Progress → Progress → List Bool → List ProofLine → Option NextCase → Type 0
Advances net aim before now ray lines (Some entry) =
    IsBestSoFar net aim now.best
    × ((earlier : List ProofLine) → IsBoundSearched net aim before.best.value earlier (open_cases net before.search.cases.chosen) before.search.leaves
    → IsBoundSearched net aim now.best.value (earlier ++ lines) (left_after net now.search.cases.chosen entry) now.search.leaves)
Advances net aim before now ray lines None =
    AreRays net aim now.best.times.items ray × (lines ≡ []) × (now.search.leaves ≡ before.search.leaves + 1)

-- a search for a bound was cut short in these lines: they show some value in the closed cases, and no more cases are counted than the lines
-- closed
pub record IsBoundCut (net : Net) (aim : Aim) (leaves : ℕ) (lines : List ProofLine) : Type 0 where
  pub value : ℤ
  pub left : List Case
  pub closed : ℕ
  pub searched : IsBoundSearched net aim value lines left closed
  pub count : leaves ≤ closed

-- a step of the search for a bound was cut short in these lines, whatever lines the search had before
abbrev pub IsCutAfter : Net → Aim → ℤ → Case → ℕ → ℕ → List ProofLine → Type 0
IsCutAfter net aim best before leaves now lines =
    (earlier : List ProofLine) → IsBoundSearched net aim best earlier (open_cases net before) leaves → IsBoundCut net aim now (earlier ++ lines)

-- how the search for a bound ends
abbrev pub SearchEnds : Net → Aim → Search → Best → List Bool → List ProofLine → Ending → Type 0
SearchEnds net aim s best ray lines Shown = IsBestSoFar net aim best × IsBoundSearched net aim best.value lines [] s.leaves
SearchEnds net aim s best ray lines Ended =
    IsBestSoFar net aim best × (s.leaves ≡ s.budget) × ((chosen : Case) × IsBoundSearched net aim best.value lines (open_cases net chosen) s.leaves)
SearchEnds net aim s best ray lines Raised =
    AreRays net aim best.times.items ray
    × ((value : ℤ) × (chosen : Case) × (closed : ℕ) × IsBoundSearched net aim value lines (open_cases net chosen) closed × (s.leaves ≡ closed + 1))

-- a search for satisfying times has reached these lines
abbrev pub IsFindSearched : Net → List ProofLine → List Case → ℕ → Type 0
IsFindSearched net lines cases closed = IsSearchedSoFar net Nothing (IsNeededToFind net) lines cases closed

-- the result of a step of the search for satisfying times: the next case is entered, or the search ends, or the times satisfy
abbrev pub FindAdvances : Net → Search → Search → List ℤ → List ProofLine → Option NextCase → Type 0
FindAdvances net before now times lines (Some entry) =
    (earlier : List ProofLine) → IsFindSearched net earlier (open_cases net before.cases.chosen) before.leaves
    → IsFindSearched net (earlier ++ lines) (left_after net now.cases.chosen entry) now.leaves
FindAdvances net before now times lines None =
    Satisfies times net × All IsTimely times × (lines ≡ []) × (now.leaves ≡ before.leaves + 1)

-- a search for satisfying times was cut short in these lines: no more cases are counted than the lines closed
pub record IsFindCut (net : Net) (leaves : ℕ) (lines : List ProofLine) : Type 0 where
  pub left : List Case
  pub closed : ℕ
  pub searched : IsFindSearched net lines left closed
  pub count : leaves ≤ closed

-- a step of the search for satisfying times was cut short in these lines, whatever lines the search had before
abbrev pub IsFindCutAfter : Net → Case → ℕ → ℕ → List ProofLine → Type 0
IsFindCutAfter net before leaves now lines =
    (earlier : List ProofLine) → IsFindSearched net earlier (open_cases net before) leaves → IsFindCut net now (earlier ++ lines)
