-- How one step of a search continues from the lines before.
use Rattle.std.proofs.Common.{◌≡◌, ◌+◌, ◌≤ℤ◌, ℕ, ℤ, List, [], ◌∷◌, ◌++◌, slice_get, refl, sym, subst, arith}
use Rattle.std.proofs.lemmas.Int.{ints}
use Rattle.event_graph.specs.Network.{Net}
use Rattle.event_graph.specs.Proof.{Bound, Case, Nothing, ProofGoal, ProofLine, Split, closing_lines, path_sum}
use Rattle.event_graph.specs.Satisfying.{Breaks}
use Rattle.event_graph.specs.Usable.{MeetsUsable}
use Rattle.branch.specs.Needed.{IsNeededToBound, IsNeededToFind}
use Rattle.event_graph.specs.Cases.{first_of, open_cases}
use Rattle.branch.specs.Step.Cases.{IsFree}
use Rattle.branch.specs.Step.Searched.{IsBoundSearched, IsCutAfter, IsFindCutAfter, IsFindSearched, IsOpen, IsSearchedSoFar, SearchSteps, StepsShort, left_after}
use Rattle.branch.specs.declared.best.Aim.{Aim}
use Rattle.branch.specs.declared.search.NextCase.{NextCase}
use Rattle.branch.specs.declared.search.Search.{Search}
use Rattle.branch.proofs.CaseCounts.{splittable_causes}
use Rattle.branch.proofs.SearchedLines.{paths_within, searched_closes, searched_higher, searched_splits}

-- an open split is needed: no path in the lines before exceeds the best separation
pub needed_open : (net : Net) (aim : Aim) (best : ℤ) (earlier : List ProofLine) (cases : List Case) (closed : ℕ) (chosen : Case) (number : ℕ) → aim.known ≤ℤ best
    → IsBoundSearched net aim best earlier cases closed → IsOpen net aim.from aim.to best chosen number → IsNeededToBound net aim.from aim.to aim.known earlier chosen number
needed_open net aim best earlier cases closed chosen number least searched open' =
    let (times, meets, past) = open'.beyond in
    record {
      beyond = (
        times,
        meets,
        record {
          known_times = omega (arith, ints);
          paths = λ names contains.
              let within : path_sum net names ≤ℤ best = paths_within net aim.from aim.to best earlier ([] ∷ []) cases names searched.reads contains in
              omega (arith, ints);
        },
      );
      broken = open'.broken;
    }

one_more : (earlier lines : List ProofLine) (line : ProofLine) → (earlier ++ line ∷ []) ++ lines ≡ earlier ++ line ∷ lines
one_more [] lines line = refl
one_more (l ∷ earlier) lines line = let rest = one_more earlier lines line in cc

-- the search continues after lines that close cases
goes : (net : Net) (goal : ProofGoal) (IsNeeded : List ProofLine → Case → ℕ → Type 0) (earlier lines : List ProofLine) (cases : List Case) (before : ℕ) (now : Search) (entry : NextCase)
    → IsSearchedSoFar net goal IsNeeded earlier cases before → SearchSteps net goal cases before now entry lines
    → IsSearchedSoFar net goal IsNeeded (earlier ++ lines) (left_after net now.cases.chosen entry) now.leaves
goes net goal IsNeeded earlier lines cases before now entry searched steps =
    subst (IsSearchedSoFar net goal IsNeeded (earlier ++ lines) (left_after net now.cases.chosen entry)) (sym steps.count)
    (searched_closes net goal IsNeeded earlier lines cases (left_after net now.cases.chosen entry) before searched steps.closes)

-- the search continues after a split
goes_split : (net : Net) (goal : ProofGoal) (IsNeeded : List ProofLine → Case → ℕ → Type 0) (earlier lines : List ProofLine) (chosen : Case) (number before : ℕ) (now : Search) (entry : NextCase)
    → IsFree net chosen number → IsNeeded earlier chosen number → IsSearchedSoFar net goal IsNeeded earlier (open_cases net chosen) before
    → SearchSteps net goal (open_cases net (first_of number chosen)) before now entry lines
    → IsSearchedSoFar net goal IsNeeded (earlier ++ Split number ∷ lines) (left_after net now.cases.chosen entry) now.leaves
goes_split net goal IsNeeded earlier lines chosen number before now entry free need searched steps =
    subst (λ ls. IsSearchedSoFar net goal IsNeeded ls (left_after net now.cases.chosen entry) now.leaves) (one_more earlier lines (Split number))
    (goes net goal IsNeeded (earlier ++ Split number ∷ []) lines (open_cases net (first_of number chosen)) before now entry
    (searched_splits net goal IsNeeded earlier chosen number before searched free.may need (splittable_causes (slice_get net.constraints number) free.causes)) steps)

-- a failure cut the search short after a split
cut_split : (net : Net) (goal : ProofGoal) (IsNeeded : List ProofLine → Case → ℕ → Type 0) (earlier lines : List ProofLine) (chosen : Case) (number before : ℕ) (now : Search)
    → IsFree net chosen number → IsNeeded earlier chosen number → IsSearchedSoFar net goal IsNeeded earlier (open_cases net chosen) before
    → (short : StepsShort net goal (open_cases net (first_of number chosen)) before now lines)
    → IsSearchedSoFar net goal IsNeeded (earlier ++ Split number ∷ lines) short.left (before + closing_lines lines)
cut_split net goal IsNeeded earlier lines chosen number before now free need searched short =
    subst (λ ls. IsSearchedSoFar net goal IsNeeded ls short.left (before + closing_lines lines)) (one_more earlier lines (Split number))
    (searched_closes net goal IsNeeded (earlier ++ Split number ∷ []) lines (open_cases net (first_of number chosen)) short.left before
    (searched_splits net goal IsNeeded earlier chosen number before searched free.may need (splittable_causes (slice_get net.constraints number) free.causes)) short.closes)

-- the search for a bound continues after a split
pub split_goes : (net : Net) (aim : Aim) (best : ℤ) (before : ℕ) (earlier lines : List ProofLine) (chosen : Case) (now : Search) (entry : NextCase) (number : ℕ)
    → aim.known ≤ℤ best → IsOpen net aim.from aim.to best chosen number
    → SearchSteps net (Bound aim.from aim.to best) (open_cases net (first_of number chosen)) before now entry lines
    → IsBoundSearched net aim best earlier (open_cases net chosen) before → IsBoundSearched net aim best (earlier ++ Split number ∷ lines) (left_after net now.cases.chosen entry) now.leaves
split_goes net aim best before earlier lines chosen now entry number least open' steps searched =
    goes_split net (Bound aim.from aim.to best) (IsNeededToBound net aim.from aim.to aim.known) earlier lines chosen number before now entry open'.free
    (needed_open net aim best earlier (open_cases net chosen) before chosen number least searched open') searched steps

-- the search for a bound continues after a path
pub path_goes : (net : Net) (aim : Aim) (was best : ℤ) (before : ℕ) (earlier lines : List ProofLine) (chosen : Case) (now : Search) (entry : NextCase)
    → was ≤ℤ best → SearchSteps net (Bound aim.from aim.to best) (open_cases net chosen) before now entry lines
    → IsBoundSearched net aim was earlier (open_cases net chosen) before → IsBoundSearched net aim best (earlier ++ lines) (left_after net now.cases.chosen entry) now.leaves
path_goes net aim was best before earlier lines chosen now entry up steps searched =
    goes net (Bound aim.from aim.to best) (IsNeededToBound net aim.from aim.to aim.known) earlier lines (open_cases net chosen) before now entry
    (searched_higher net aim.from aim.to was best (IsNeededToBound net aim.from aim.to aim.known) earlier (open_cases net chosen) before up searched) steps

-- the search for a bound is cut short after a split
pub split_cut : (net : Net) (aim : Aim) (best : ℤ) (before : ℕ) (lines : List ProofLine) (chosen : Case) (number : ℕ) (now : Search)
    → aim.known ≤ℤ best → IsOpen net aim.from aim.to best chosen number → StepsShort net (Bound aim.from aim.to best) (open_cases net (first_of number chosen)) before now lines
    → IsCutAfter net aim best chosen before now.leaves (Split number ∷ lines)
split_cut net aim best before lines chosen number now least open' short =
    λ earlier searched. record {
      value = best;
      left = short.left;
      closed = before + closing_lines lines;
      searched = cut_split net (Bound aim.from aim.to best) (IsNeededToBound net aim.from aim.to aim.known) earlier lines chosen number before now open'.free
          (needed_open net aim best earlier (open_cases net chosen) before chosen number least searched open') searched short;
      count = short.count;
    }

-- the search for a bound is cut short in lines that close cases
pub path_cut : (net : Net) (aim : Aim) (was best : ℤ) (before : ℕ) (lines : List ProofLine) (chosen : Case) (now : Search)
    → was ≤ℤ best → StepsShort net (Bound aim.from aim.to best) (open_cases net chosen) before now lines → IsCutAfter net aim was chosen before now.leaves lines
path_cut net aim was best before lines chosen now up short =
    λ earlier searched.
    let higher = searched_higher net aim.from aim.to was best (IsNeededToBound net aim.from aim.to aim.known) earlier (open_cases net chosen) before up searched in
    record {
      value = best;
      left = short.left;
      closed = before + closing_lines lines;
      searched = searched_closes net (Bound aim.from aim.to best) (IsNeededToBound net aim.from aim.to aim.known) earlier lines (open_cases net chosen) short.left before higher short.closes;
      count = short.count;
    }

-- the search for satisfying times continues after a split on a broken constraint
pub find_goes : (net : Net) (before : ℕ) (earlier lines : List ProofLine) (chosen : Case) (now : Search) (entry : NextCase) (number : ℕ) (times : List ℤ) → IsFree net chosen number
    → MeetsUsable net chosen times → Breaks times net number → SearchSteps net Nothing (open_cases net (first_of number chosen)) before now entry lines
    → IsFindSearched net earlier (open_cases net chosen) before → IsFindSearched net (earlier ++ Split number ∷ lines) (left_after net now.cases.chosen entry) now.leaves
find_goes net before earlier lines chosen now entry number times free meets breaks steps searched =
    goes_split net Nothing (IsNeededToFind net) earlier lines chosen number before now entry free (times, meets, breaks) searched steps

-- the search for satisfying times is cut short after such a split
pub find_cut : (net : Net) (before : ℕ) (lines : List ProofLine) (chosen : Case) (number : ℕ) (times : List ℤ) (now : Search) → IsFree net chosen number
    → MeetsUsable net chosen times → Breaks times net number → StepsShort net Nothing (open_cases net (first_of number chosen)) before now lines
    → IsFindCutAfter net chosen before now.leaves (Split number ∷ lines)
find_cut net before lines chosen number times now free meets breaks short =
    λ earlier searched. record {
      left = short.left;
      closed = before + closing_lines lines;
      searched = cut_split net Nothing (IsNeededToFind net) earlier lines chosen number before now free (times, meets, breaks) searched short;
      count = short.count;
    }
