-- How a search ends.
use Rattle.std.proofs.Common.{◌≡◌, ◌+◌, ◌≤◌, ℕ, ℤ, Bool, List, [], ◌∷◌, Option, Some, IfSome, refl, arith}
use Rattle.std.proofs.lemmas.List.Elements.{All-cons, All-nil}
use Rattle.itv_base.specs.declared.names.EdgeName.{EdgeName}
use Rattle.event_graph.specs.Network.{IsNet, Net}
use Rattle.event_graph.specs.Proof.{Bound, Case, ClosesByLoop, IsStoppedProof, Loop, Nothing, ProofGoal, ProofLine}
use Rattle.event_graph.specs.RootBound.{IsRootBound, MeetsAlways}
use Rattle.event_graph.specs.Satisfying.{Satisfies}
use Rattle.event_graph.specs.Limits.{IsReach}
use Rattle.event_graph.proofs.SoundProofs.{proof_bounds, proof_of_nothing}
use Rattle.event_graph.proofs.ProofCounts.{proof_is_within_choices, stopped_proof_is_below_choices}
use Rattle.branch.specs.Answers.{IsClosedAt, IsCounted, IsEnclosedBy, IsFoundConsistent, IsFoundInconsistent, IsFoundOpen, IsShownUnbounded}
use Rattle.event_graph.specs.Cases.{open_cases, siblings}
use Rattle.branch.specs.Step.Searched.{IsBestSoFar, AreRays, IsBoundSearched, IsClosing, IsFindSearched, IsSearchedSoFar, aimed}
use Rattle.branch.specs.declared.best.Aim.{Aim}
use Rattle.branch.specs.declared.best.Best.{Best}
use Rattle.branch.proofs.SearchedLines.{none_searched, searched_closes}

-- lines that leave a case open are a stopped proof
pub is_stopped : (net : Net) (goal : ProofGoal) (IsNeeded : List ProofLine → Case → ℕ → Type 0) (lines : List ProofLine) (chosen : Case) (closed : ℕ)
    → IsSearchedSoFar net goal IsNeeded lines (open_cases net chosen) closed → IsStoppedProof net goal lines closed
is_stopped net goal IsNeeded lines chosen closed searched = record {
  open_case = (chosen, siblings net chosen, searched.reads);
  closed = searched.count;
}

pub closed_at : (net : Net) (aim : Aim) (best : Best) (budget : ℕ) (lines : List ProofLine) (leaves : ℕ) (ray : List Bool) → IsBestSoFar net aim best
    → IsBoundSearched net aim best.value lines [] leaves
    → IsClosedAt (aimed net aim budget) best.value (record { lines = lines; leaves = leaves; times = best.times.items; ray = ray })
closed_at net aim best budget lines leaves ray are_best searched = record {
  greatest = record {
    attained = (best.times.items, are_best.satisfies, are_best.attained);
    most = λ times satisfies. proof_bounds net aim.from aim.to best.value lines times searched.reads satisfies;
  };
  attained = are_best.attained;
  proof = searched.reads;
  count = searched.count;
}

pub proof_count : (net : Net) (goal : ProofGoal) (IsNeeded : List ProofLine → Case → ℕ → Type 0) (budget : ℕ) (lines : List ProofLine) (leaves : ℕ) → IsNet net
    → leaves ≤ budget → IsSearchedSoFar net goal IsNeeded lines [] leaves → IsCounted net budget leaves
proof_count net goal IsNeeded budget lines leaves is_net within searched = record {
  within_budget = within;
  within_choices = omega (arith, proof_is_within_choices net goal lines is_net searched.reads, searched.count);
}

pub stopped_count : (net : Net) (goal : ProofGoal) (IsNeeded : List ProofLine → Case → ℕ → Type 0) (budget : ℕ) (lines : List ProofLine) (leaves closed : ℕ) (chosen : Case) → IsNet net
    → leaves ≤ budget → leaves ≤ closed + 1 → IsSearchedSoFar net goal IsNeeded lines (open_cases net chosen) closed → IsCounted net budget leaves
stopped_count net goal IsNeeded budget lines leaves closed chosen is_net within most searched = record {
  within_budget = within;
  within_choices = omega (arith, stopped_proof_is_below_choices net goal lines closed is_net (is_stopped net goal IsNeeded lines chosen closed searched));
}

pub cut_count : (net : Net) (goal : ProofGoal) (IsNeeded : List ProofLine → Case → ℕ → Type 0) (budget : ℕ) (lines : List ProofLine) (leaves closed : ℕ) (left : List Case) → IsNet net
    → leaves ≤ budget → leaves ≤ closed → IsSearchedSoFar net goal IsNeeded lines left closed → IsCounted net budget leaves
cut_count net goal IsNeeded budget lines leaves closed [] is_net within most searched = record {
  within_budget = within;
  within_choices = omega (arith, most, proof_is_within_choices net goal lines is_net searched.reads, searched.count);
}
cut_count net goal IsNeeded budget lines leaves closed (chosen ∷ cases) is_net within most searched = record {
  within_budget = within;
  within_choices = omega (arith, most, stopped_proof_is_below_choices net goal lines closed is_net (record { open_case = (chosen, cases, searched.reads); closed = searched.count }));
}

pub enclosed_by : (net : Net) (aim : Aim) (upper : Option ℤ) (best : Best) (budget : ℕ) (lines : List ProofLine) (leaves : ℕ) (ray : List Bool) (chosen : Case) → IsNet net
    → IsRootBound net aim.from aim.to upper → IfSome upper IsReach → IsBestSoFar net aim best → leaves ≡ budget → IsBoundSearched net aim best.value lines (open_cases net chosen) leaves
    → IsEnclosedBy (aimed net aim budget) upper best.value (record { lines = lines; leaves = leaves; times = best.times.items; ray = ray })
enclosed_by net aim upper best budget lines leaves ray chosen is_net root within are_best used searched =
    let stopped = is_stopped net (Bound aim.from aim.to best.value) _ lines chosen leaves searched in
    record {
      root = root;
      within = within;
      attains = are_best.attained;
      stopped = stopped;
      used = used;
      below_choices = omega (arith, used, stopped_proof_is_below_choices net (Bound aim.from aim.to best.value) lines leaves is_net stopped);
    }

pub shown_unbounded : (net : Net) (aim : Aim) (budget : ℕ) (value : ℤ) (lines : List ProofLine) (leaves closed : ℕ) (times : List ℤ) (ray : List Bool) (chosen : Case) → AreRays net aim times ray
    → IsBoundSearched net aim value lines (open_cases net chosen) closed → leaves ≡ closed + 1 → IsShownUnbounded (aimed net aim budget) (record { lines = lines; leaves = leaves; times = times; ray = ray })
shown_unbounded net aim budget value lines leaves closed times ray chosen rays searched one_more = record {
  raised = rays.raises;
  stopped = (value, closed, is_stopped net (Bound aim.from aim.to value) _ lines chosen closed searched, one_more);
}

-- a loop of always-edges shows that no times satisfy
pub root_loop : (net : Net) (walk : List EdgeName) (times : List ℤ) → ClosesByLoop net [] walk → Satisfies times net → ⊥
root_loop net walk times closes satisfies = proof_of_nothing net (Loop walk ∷ []) (closes, refl) times satisfies

-- a loop at the root is a whole proof
pub root_searched : (net : Net) (walk : List EdgeName) → ClosesByLoop net [] walk → IsFindSearched net (Loop walk ∷ []) [] 1
root_searched net walk closes =
    searched_closes net Nothing _ [] (Loop walk ∷ []) ([] ∷ []) [] 0 (none_searched net Nothing _)
    (record { reads = (closes, refl); closing = All-cons IsClosing (Loop walk) [] tt (All-nil IsClosing) })

pub found_consistent : (net : Net) (lines : List ProofLine) (leaves closed : ℕ) (times : List ℤ) (chosen : Case) → Satisfies times net
    → IsFindSearched net lines (open_cases net chosen) closed → leaves ≡ closed + 1 → IsFoundConsistent net lines leaves (Some times)
found_consistent net lines leaves closed times chosen satisfies searched one_more = record {
  satisfies = satisfies;
  stopped = (closed, is_stopped net Nothing _ lines chosen closed searched, one_more);
}

pub found_inconsistent : (net : Net) (lines : List ProofLine) (leaves : ℕ) → IsFindSearched net lines [] leaves → IsFoundInconsistent net lines leaves
found_inconsistent net lines leaves searched = record {
  none = λ times satisfies. proof_of_nothing net lines searched.reads times satisfies;
  proof = searched.reads;
  count = searched.count;
}

pub found_unsettled : (net : Net) (budget : ℕ) (lines : List ProofLine) (leaves : ℕ) (chosen : Case) → IsNet net → (times : List ℤ) × MeetsAlways times net → leaves ≡ budget
    → IsFindSearched net lines (open_cases net chosen) leaves → IsFoundOpen net budget lines leaves
found_unsettled net budget lines leaves chosen is_net always used searched =
    let stopped = is_stopped net Nothing _ lines chosen leaves searched in
    record {
      always = always;
      stopped = stopped;
      used = used;
      below_choices = omega (arith, used, stopped_proof_is_below_choices net Nothing lines leaves is_net stopped);
    }
