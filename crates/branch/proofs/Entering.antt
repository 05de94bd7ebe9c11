-- Closing cases on the way to the next one.
use Rattle.std.proofs.Common.{◌≡◌, ◌+◌, ◌<◌, ◌≤◌, ℕ, List, [], ◌∷◌, ◌++◌, Some, length, refl, sym, ap, ◌∙◌, subst, arith}
use Rattle.std.proofs.lemmas.List.Elements.{All-append, All-cons, All-nil}
use Rattle.itv_base.specs.declared.names.EdgeName.{EdgeName}
use Rattle.event_graph.specs.Network.{Net}
use Rattle.event_graph.specs.Proof.{Case, ClosesByLoop, ClosesByPath, Loop, Path, ProofGoal, ProofLine, ProofLeaves, Split, closing_lines}
use Rattle.event_graph.specs.Cases.{open_cases, siblings}
use Rattle.branch.specs.Step.Cases.{IsSearchCase, work_left}
use Rattle.branch.specs.Step.Searched.{ClosesCases, IsAtCase, IsClosing, IsNext, IsSearchedSoFar, Keeps, LeavesFor, SearchSteps, StepsShort, left_after}
use Rattle.branch.specs.Step.Standing.{AreOfSame, StandsOn}
use Rattle.branch.specs.declared.search.NextCase.{NextCase}
use Rattle.branch.specs.declared.search.NextCase.TheVariants.{Entered, AllClosed, Stopped}
use Rattle.branch.specs.declared.search.Search.{Search}
use Rattle.branch.proofs.CaseCounts.{work_falls}
use Rattle.event_graph.proofs.ReadingOn.{closing_lines-append, reads-append}
use Rattle.branch.proofs.SearchedLines.{none_searched}

-- a closed case leaves less work
pub leave_falls : (net : Net) (before now : Search) → before.leaves < before.budget → IsSearchCase net now.cases.chosen → now.budget ≡ before.budget → now.leaves ≡ before.leaves + 1
    → work_left net now.budget now.leaves now.cases.chosen < work_left net before.budget before.leaves before.cases.chosen
leave_falls net before now left is_case same_budget one_more =
    subst (λ (b : ℕ). work_left net b now.leaves now.cases.chosen < work_left net before.budget before.leaves before.cases.chosen) (sym same_budget)
    (subst (λ (n : ℕ). work_left net before.budget n now.cases.chosen < work_left net before.budget before.leaves before.cases.chosen) (sym one_more)
    (work_falls net before.budget before.leaves before.cases.chosen now.cases.chosen left is_case))

pub keeps_then : (net : Net) (a b c : Search) → Keeps net a b → Keeps net b c → Keeps net a c
keeps_then net a b c first then = record {
  room = then.room ∙ first.room;
  budget = then.budget ∙ first.budget;
  bounds = record {
    source = then.bounds.source ∙ first.bounds.source;
    made = λ made. then.bounds.made (first.bounds.made made);
  };
}

-- only the bounds have changed
pub keeps_bounds : (net : Net) (a b : Search) → b ≡ record a { bounds = b.bounds } → AreOfSame net a.bounds b.bounds → Keeps net a b
keeps_bounds net a b others same = record {
  room = ap (λ (s : Search). s.cases.room) others;
  budget = ap (λ (s : Search). s.budget) others;
  bounds = same;
}

-- how far a search has come in closing the cases that were open
pub record HasClosed (net : Net) (goal : ProofGoal) (cases left : List Case) (before leaves : ℕ) (lines : List ProofLine) : Type 0 where
  pub closes : ClosesCases net goal cases left lines
  pub count : leaves ≡ before + closing_lines lines

pub closing_one : (line : ProofLine) → IsClosing line → closing_lines (line ∷ []) ≡ 1
closing_one (Split number) closing = absurd closing
closing_one (Path names) closing = omega arith
closing_one (Loop names) closing = omega arith

-- no case is closed yet
pub closed_none : (net : Net) (goal : ProofGoal) (cases : List Case) (leaves : ℕ) → HasClosed net goal cases cases leaves leaves []
closed_none net goal cases leaves = record {
  closes = record { reads = refl; closing = All-nil IsClosing };
  count = omega arith;
}

-- one more case is closed
pub closed_one : (net : Net) (goal : ProofGoal) (cases : List Case) (chosen : Case) (before leaves now : ℕ) (lines : List ProofLine) (line : ProofLine)
    → HasClosed net goal cases (open_cases net chosen) before leaves lines → IsClosing line → ProofLeaves net goal (open_cases net chosen) (line ∷ []) (siblings net chosen)
    → now ≡ leaves + 1 → HasClosed net goal cases (siblings net chosen) before now (lines ++ line ∷ [])
closed_one net goal cases chosen before leaves now lines line closed closing reads one_more = record {
  closes = record {
    reads = reads-append net goal lines (line ∷ []) cases (open_cases net chosen) (siblings net chosen) closed.closes.reads reads;
    closing = All-append IsClosing lines (line ∷ []) closed.closes.closing (All-cons IsClosing line [] closing (All-nil IsClosing));
  };
  count = omega (arith, closed.count, one_more, closing_lines-append lines (line ∷ []), closing_one line closing);
}

-- the search leaves a closed case for the next one: the cases that are open then
pub closed_next : (net : Net) (goal : ProofGoal) (cases : List Case) (mid now : Search) (before : ℕ) (lines : List ProofLine)
    → HasClosed net goal cases (siblings net mid.cases.chosen) before now.leaves lines → IsNext net mid now
    → HasClosed net goal cases (open_cases net now.cases.chosen) before now.leaves lines
closed_next net goal cases mid now before lines closed next =
    subst (λ (left : List Case). HasClosed net goal cases left before now.leaves lines) next.same closed

-- the search leaves a closed case and ends: the cases that are open then
pub closed_end : (net : Net) (goal : ProofGoal) (cases : List Case) (mid now : Search) (before : ℕ) (lines : List ProofLine) (end : NextCase)
    → HasClosed net goal cases (siblings net mid.cases.chosen) before now.leaves lines → LeavesFor net mid now (Some end)
    → SearchSteps net goal cases before now end lines
closed_end net goal cases mid now before lines Entered closed leaves = absurd leaves
closed_end net goal cases mid now before lines AllClosed closed leaves =
    record { closes = subst (λ (left : List Case). ClosesCases net goal cases left lines) leaves closed.closes; count = closed.count }
closed_end net goal cases mid now before lines Stopped closed leaves =
    record { closes = subst (λ (left : List Case). ClosesCases net goal cases left lines) leaves.0 closed.closes; count = closed.count }

-- a step after closed cases
pub steps_after : (net : Net) (goal : ProofGoal) (cases mid : List Case) (before between : ℕ) (now : Search) (entry : NextCase) (lines more : List ProofLine)
    → HasClosed net goal cases mid before between lines → SearchSteps net goal mid between now entry more → SearchSteps net goal cases before now entry (lines ++ more)
steps_after net goal cases mid before between now entry lines more closed steps = record {
  closes = record {
    reads = reads-append net goal lines more cases mid (left_after net now.cases.chosen entry) closed.closes.reads steps.closes.reads;
    closing = All-append IsClosing lines more closed.closes.closing steps.closes.closing;
  };
  count = omega (arith, closed.count, steps.count, closing_lines-append lines more);
}

-- no case is closed if the first line fails
pub short_none : (net : Net) (goal : ProofGoal) (cases : List Case) (before : ℕ) (now : Search) → now.leaves ≡ before → StepsShort net goal cases before now []
short_none net goal cases before now same = record {
  left = cases;
  closes = record { reads = refl; closing = All-nil IsClosing };
  count = omega (arith, same);
}

-- a line that closes the case at hand fails
pub short_one : (net : Net) (goal : ProofGoal) (cases : List Case) (chosen : Case) (before leaves : ℕ) (now : Search) (lines : List ProofLine) (line : ProofLine)
    → HasClosed net goal cases (open_cases net chosen) before leaves lines → IsClosing line → ProofLeaves net goal (open_cases net chosen) (line ∷ []) (siblings net chosen)
    → now.leaves ≡ leaves → StepsShort net goal cases before now (lines ++ line ∷ [])
short_one net goal cases chosen before leaves now lines line closed closing reads same =
    let one = closed_one net goal cases chosen before leaves (leaves + 1) lines line closed closing reads refl in
    record { left = siblings net chosen; closes = one.closes; count = omega (arith, one.count, same) }

-- a failure after closed cases
pub short_after : (net : Net) (goal : ProofGoal) (cases mid : List Case) (before between : ℕ) (now : Search) (lines more : List ProofLine)
    → HasClosed net goal cases mid before between lines → StepsShort net goal mid between now more → StepsShort net goal cases before now (lines ++ more)
short_after net goal cases mid before between now lines more closed short = record {
  left = short.left;
  closes = record {
    reads = reads-append net goal lines more cases mid short.left closed.closes.reads short.closes.reads;
    closing = All-append IsClosing lines more closed.closes.closing short.closes.closing;
  };
  count = omega (arith, closed.count, short.count, closing_lines-append lines more);
}

-- the case at hand is entered
pub steps_here : (net : Net) (goal : ProofGoal) (cases : List Case) (before : ℕ) (at now : Search) (lines : List ProofLine) → now.cases.chosen ≡ at.cases.chosen → now.leaves ≡ at.leaves
    → HasClosed net goal cases (open_cases net at.cases.chosen) before at.leaves lines → SearchSteps net goal cases before now Entered lines
steps_here net goal cases before at now lines same_case same_leaves closed = record {
  closes = subst (λ (chosen : Case). ClosesCases net goal cases (open_cases net chosen) lines) (sym same_case) closed.closes;
  count = same_leaves ∙ closed.count;
}

pub loop_reads : (net : Net) (goal : ProofGoal) (chosen : Case) (walk : List EdgeName) → ClosesByLoop net chosen walk
    → ProofLeaves net goal (open_cases net chosen) (Loop walk ∷ []) (siblings net chosen)
loop_reads net goal chosen walk closes = (closes, refl)

pub path_reads : (net : Net) (goal : ProofGoal) (chosen : Case) (walk : List EdgeName) → ClosesByPath net goal chosen walk
    → ProofLeaves net goal (open_cases net chosen) (Path walk ∷ []) (siblings net chosen)
path_reads net goal chosen walk closes = (closes, refl)

-- a search that was started is at the case without choices
pub at_root : (net : Net) (s : Search) → s.cases.chosen ≡ [] → StandsOn net [] s.bounds → length net.constraints ≤ s.cases.room → s.leaves < s.budget → IsAtCase net s
at_root net s none stands room left = record {
  case = subst (IsSearchCase net) (sym none) (tt, tt);
  stands = subst (λ (chosen : Case). StandsOn net chosen s.bounds) (sym none) stands;
  room = room;
  left = left;
}

-- no line is read yet
pub root_read : (net : Net) (goal : ProofGoal) (IsNeeded : List ProofLine → Case → ℕ → Type 0) (s : Search) → s.cases.chosen ≡ [] → s.leaves ≡ 0
    → IsSearchedSoFar net goal IsNeeded [] (open_cases net s.cases.chosen) s.leaves
root_read net goal IsNeeded s none zero =
    subst (λ (chosen : Case). IsSearchedSoFar net goal IsNeeded [] (open_cases net chosen) s.leaves) (sym none)
    (subst (λ (n : ℕ). IsSearchedSoFar net goal IsNeeded [] ([] ∷ []) n) (sym zero) (none_searched net goal IsNeeded))

pub keeps_same : (net : Net) (a : Search) → Keeps net a a
keeps_same net a = record { room = refl; budget = refl; bounds = record { source = refl; made = λ made. made } }
