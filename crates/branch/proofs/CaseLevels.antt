-- The levels of bounds that stand on a case.
use Rattle.std.proofs.Common.{◌≡◌, ◌<◌, List, [], ◌∷◌, length, map, sym, ap, subst, refl, arith}
use Rattle.event_graph.specs.Network.{Net}
use Rattle.event_graph.specs.Proof.{Case, Choice, ClosesByLoop}
use Rattle.itv_base.specs.declared.names.EdgeName.{EdgeName}
use Rattle.trail.specs.Stack.{Graph}
use Rattle.diff_bounds.specs.Current.{IsLoop, with_choice}
use Rattle.diff_bounds.specs.Standing.{BoundsView, chosen_of}
use Rattle.branch.specs.Step.Cases.{IsSearchCase}
use Rattle.branch.specs.Step.Edges.{choice_name}
use Rattle.branch.specs.Step.Standing.{StandsBelow, StandsOn, edges_below, edges_of}
use Rattle.branch.proofs.CaseCounts.{case_room}
use Rattle.branch.proofs.UsableEdges.{closes_by_loop}

length-edges_below : (net : Net) (chosen : Case) → length (edges_below net chosen) ≡ length chosen
length-edges_below net [] = refl
length-edges_below net (choice ∷ below) = omega (arith, length-edges_below net below)

length-edges : (graphs : List Graph) → length (map (λ (graph : Graph). graph.edges) graphs) ≡ length graphs
length-edges [] = refl
length-edges (graph ∷ graphs) = omega (arith, length-edges graphs)

-- there is a level for each choice
pub levels_are : (net : Net) (chosen : Case) (bounds : BoundsView) → StandsOn net chosen bounds → length bounds.trail.below ≡ length chosen
levels_are net chosen bounds stands =
    let same : length (map (λ (graph : Graph). graph.edges) bounds.trail.below) ≡ length (edges_below net chosen) = ap (λ (xs : List (List EdgeName)). length xs) stands.below in
    omega (arith, same, length-edges_below net chosen, length-edges bounds.trail.below)

-- there is room for the level of the latest choice
pub room_below : (net : Net) (chosen : Case) (choice : Choice) (below : Case) (bounds : BoundsView) → chosen ≡ choice ∷ below → IsSearchCase net chosen → StandsBelow net chosen bounds
    → length bounds.trail.below < bounds.trail.levels
room_below net chosen choice below bounds same is_case stands =
    let is_case_here : IsSearchCase net (choice ∷ below) = subst (IsSearchCase net) same is_case in
    let stands_here : StandsOn net below bounds = subst (λ (c : Case). StandsBelow net c bounds) same stands in
    omega (arith, case_room net choice below is_case_here, levels_are net below bounds stands_here, stands_here.stands.made.levels)

-- a case with a choice has a level to give back
pub level_above : (net : Net) (chosen : Case) (bounds : BoundsView) → StandsOn net chosen bounds → (chosen ≡ [] → ⊥) → 0 < length bounds.trail.below
level_above net [] bounds stands some = absurd (some refl)
level_above net (choice ∷ below) bounds stands some = omega (arith, levels_are net (choice ∷ below) bounds stands)

-- a loop that was found closes the case
pub loop_closes : (net : Net) (chosen : Case) (choice : Choice) (below : Case) (bounds : BoundsView) (name : EdgeName) (walk : List EdgeName) → chosen ≡ choice ∷ below
    → IsSearchCase net chosen → StandsBelow net chosen bounds → name ≡ choice_name net choice → IsLoop net (with_choice net (chosen_of bounds) name) walk → ClosesByLoop net chosen walk
loop_closes net chosen choice below bounds name walk same is_case stands is_name loop' =
    let is_case_here : IsSearchCase net (choice ∷ below) = subst (IsSearchCase net) same is_case in
    let stands_here : StandsOn net below bounds = subst (λ (c : Case). StandsBelow net c bounds) same stands in
    let at_name : IsLoop net (with_choice net (chosen_of bounds) (choice_name net choice)) walk = subst (λ (n : EdgeName). IsLoop net (with_choice net (chosen_of bounds) n) walk) is_name loop' in
    let here : IsLoop net (edges_of net (choice ∷ below)) walk = subst (λ (edges : List EdgeName). IsLoop net (with_choice net edges (choice_name net choice)) walk) stands_here.edges at_name in
    subst (λ (c : Case). ClosesByLoop net c walk) (sym same) (closes_by_loop net (choice ∷ below) walk is_case_here here)
