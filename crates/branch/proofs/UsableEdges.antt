-- The edges that bounds have chosen are the edges that a proof may use in the case.
use Rattle.std.proofs.Common.{◌≡◌, ◌≤ℤ◌, ◌⊎◌, zero, suc, ℤ, pos, false, cond, List, [], ◌∷◌, ◌++◌, All, Contains, Option, Some, None, IsSomeAnd, is_some, slice_get, refl, sym, ap, subst, inl, inr, arith}
use Rattle.std.proofs.lemmas.Int.{ints}
use Rattle.std.proofs.lemmas.List.Elements.{All-cons, All-contains, All-head, All-nil, All-tail, Contains-append_left, Contains-push, Contains-push_cases}
use Rattle.itv_base.specs.declared.names.EdgeName.{EdgeName}
use Rattle.itv_base.specs.declared.names.EventId.{EventId}
use Rattle.itv_base.specs.declared.names.Side.{Side}
use Rattle.event_graph.specs.Cases.{IsCase}
use Rattle.event_graph.specs.declared.edge.Edge.{Edge}
use Rattle.event_graph.specs.Edges.{IsAlways, choice_side, edge}
use Rattle.event_graph.specs.Network.{Constraint, Net}
use Rattle.event_graph.specs.Proof.{Bound, Case, Choice, ClosesByLoop, ClosesByPath, HasChoice, IsUsable}
use Rattle.event_graph.specs.RootBound.{IsRootBound, MeetsAlways}
use Rattle.event_graph.specs.Usable.{MeetsUsable}
use Rattle.diff_bounds.specs.Current.{IsCurrent, IsLoop, IsPath, IsUpper, MeetsCurrent, with_choice}
use Rattle.branch.specs.Step.Cases.{IsSearchCase}
use Rattle.branch.specs.Step.Edges.{choice_name, side_of}
use Rattle.branch.specs.Step.Standing.{IsUpperIn, edges_of}

added : (o : Option Edge) (chosen : List EdgeName) (choice name : EdgeName) → Contains (cond (is_some o) (chosen ++ choice ∷ []) chosen) name → Contains chosen name ⊎ (choice ≡ name)
added None chosen choice name contains = inl contains
added (Some e) chosen choice name contains = Contains-push_cases chosen choice name contains

kept : (o : Option Edge) (chosen : List EdgeName) (choice name : EdgeName) → Contains chosen name → Contains (cond (is_some o) (chosen ++ choice ∷ []) chosen) name
kept None chosen choice name contains = contains
kept (Some e) chosen choice name contains = Contains-append_left chosen (choice ∷ []) name contains

put : (o : Option Edge) (chosen : List EdgeName) (choice : EdgeName) (e : Edge) → o ≡ Some e → Contains (cond (is_some o) (chosen ++ choice ∷ []) chosen) choice
put None chosen choice e there = absurd (cc)
put (Some f) chosen choice e there = Contains-push chosen choice

later : {X : Type 0} (x y : X) (xs : List X) → Contains xs y → Contains (x ∷ xs) y
later x y xs (k, within, is) = (suc k, omega arith, is)

-- an edge of a case is the edge of one of its choices
edges_in : (net : Net) (chosen : Case) (name : EdgeName) → Contains (edges_of net chosen) name → (choice : Choice) × Contains chosen choice × (choice_name net choice ≡ name)
edges_in net [] name (k, within, is) = absurd (omega arith)
edges_in net (choice ∷ below) name contains =
    elim (added (edge net (choice_name net choice)) (edges_of net below) (choice_name net choice) name contains) [
      | inl earlier ↦ (let found = edges_in net below name earlier in (found.0, later choice found.0 below found.1, found.2))
      | inr same ↦ (choice, (0, omega arith, refl), same)
    ]

-- if a choice has an edge, the case has it
in_edges : (net : Net) (chosen : Case) (choice : Choice) (e : Edge) → Contains chosen choice → edge net (choice_name net choice) ≡ Some e → Contains (edges_of net chosen) (choice_name net choice)
in_edges net [] choice e (k, within, is) there = absurd (omega arith)
in_edges net (first ∷ below) choice e (zero, within, is) there =
    subst (λ (c : Choice). Contains (with_choice net (edges_of net below) (choice_name net first)) (choice_name net c)) is
    (put (edge net (choice_name net first)) (edges_of net below) (choice_name net first) e (subst (λ (c : Choice). edge net (choice_name net c) ≡ Some e) (sym is) there))
in_edges net (first ∷ below) choice e (suc k, within, is) there =
    kept (edge net (choice_name net first)) (edges_of net below) (choice_name net first) (choice_name net choice) (in_edges net below choice e (k, omega arith, is) there)

-- the constraint of a choice has causes to choose from
abbrev MayChoose : Net → Choice → Type 0
MayChoose net choice = IsSomeAnd (slice_get net.constraints choice.constraint) (λ c. HasChoice c.kind)

have_choices : (net : Net) (chosen : Case) → IsCase net chosen → All (MayChoose net) chosen
have_choices net [] is_case = All-nil (MayChoose net)
have_choices net (choice ∷ below) is_case = All-cons (MayChoose net) choice below is_case.0.0 (have_choices net below is_case.2)

on_own_side : (o : Option Constraint) → IsSomeAnd o (λ c. HasChoice c.kind) → IsSomeAnd o (λ c. HasChoice c.kind × (side_of o ≡ choice_side c.kind))
on_own_side None has = absurd has
on_own_side (Some k) has = (has, refl)

own_side : (o : Option Constraint) (side : Side) → IsSomeAnd o (λ c. HasChoice c.kind × (side ≡ choice_side c.kind)) → side_of o ≡ side
own_side None side on = absurd on
own_side (Some k) side on = sym on.1

-- in a case, a current edge is usable
pub current_usable : (net : Net) (chosen : Case) (name : EdgeName) → IsSearchCase net chosen → IsCurrent net (edges_of net chosen) name → IsUsable net chosen name
current_usable net chosen name is_case (inl always) = inl always
current_usable net chosen name is_case (inr contains) =
    let found = edges_in net chosen name contains in
    let choice : Choice = found.0 in
    let may = All-contains (MayChoose net) chosen choice (have_choices net chosen is_case.0) found.1 in
    subst (IsUsable net chosen) found.2 (inr (found.1, on_own_side (slice_get net.constraints choice.constraint) may))

-- a usable edge is current
pub usable_current : (net : Net) (chosen : Case) (name : EdgeName) (e : Edge) → edge net name ≡ Some e → IsUsable net chosen name → IsCurrent net (edges_of net chosen) name
usable_current net chosen name e there (inl always) = inl always
usable_current net chosen name e there (inr (contains, on)) =
    let choice : Choice = record { constraint = name.constraint; cause = name.cause } in
    let side : side_of (slice_get net.constraints name.constraint) ≡ name.side = own_side (slice_get net.constraints name.constraint) name.side on in
    let same : choice_name net choice ≡ name = ap (λ (s : Side). record { constraint = name.constraint; cause = name.cause; side = s }) side in
    let at_choice : edge net (choice_name net choice) ≡ Some e = subst (λ (n : EdgeName). edge net n ≡ Some e) (sym same) there in
    subst (IsCurrent net (edges_of net chosen)) same (inr (in_edges net chosen choice e contains at_choice))

-- times that meet the current edges meet the usable ones
pub meets_usable : (net : Net) (chosen : Case) (times : List ℤ) → MeetsCurrent net (edges_of net chosen) times → MeetsUsable net chosen times
meets_usable net chosen times meets = record {
  count = meets.count;
  each = λ name e usable there. meets.each name e (usable_current net chosen name e there usable) there;
}

pub meets_current : (net : Net) (chosen : Case) (times : List ℤ) → IsSearchCase net chosen → MeetsUsable net chosen times → MeetsCurrent net (edges_of net chosen) times
meets_current net chosen times is_case meets = record {
  count = meets.count;
  each = λ name e current there. meets.each name e (current_usable net chosen name is_case current) there;
}

-- current and usable edges allow the same greatest separations
pub upper_usable : (net : Net) (chosen : Case) (from to : EventId) (upper : Option ℤ) → IsSearchCase net chosen → IsUpper net (edges_of net chosen) from to upper → IsUpperIn net chosen from to upper
upper_usable net chosen from to (Some value) is_case greatest = record {
  attained = (greatest.attained.0, meets_usable net chosen greatest.attained.0 greatest.attained.1, greatest.attained.2);
  most = λ times meets. greatest.most times (meets_current net chosen times is_case meets);
}
upper_usable net chosen from to None is_case unbounded =
    λ value. let past = unbounded value in (past.0, meets_usable net chosen past.0 past.1, past.2)

-- an event has a greatest separation from itself
pub source_bounded : (net : Net) (chosen : List EdgeName) (from : EventId) (upper : Option ℤ) → IsUpper net chosen from from upper → is_some upper ≡ false → ⊥
source_bounded net chosen from None unbounded none = let past = unbounded (pos 0) in absurd (omega (arith, ints, past.2))
source_bounded net chosen from (Some value) greatest none = cc

-- if all edges of a walk are current, all are usable
all_usable : (net : Net) (chosen : Case) (names : List EdgeName) → IsSearchCase net chosen → All (IsCurrent net (edges_of net chosen)) names → All (IsUsable net chosen) names
all_usable net chosen [] is_case all = All-nil (IsUsable net chosen)
all_usable net chosen (name ∷ names) is_case all =
    All-cons (IsUsable net chosen) name names
    (current_usable net chosen name is_case (All-head (IsCurrent net (edges_of net chosen)) name names all))
    (all_usable net chosen names is_case (All-tail (IsCurrent net (edges_of net chosen)) name names all))

pub closes_by_loop : (net : Net) (chosen : Case) (names : List EdgeName) → IsSearchCase net chosen → IsLoop net (edges_of net chosen) names → ClosesByLoop net chosen names
closes_by_loop net chosen names is_case loop' =
    ((loop'.event, loop'.walk), all_usable net chosen names is_case loop'.current, loop'.negative, loop'.count)

pub closes_by_path : (net : Net) (chosen : Case) (from to : EventId) (sum value : ℤ) (names : List EdgeName) → IsSearchCase net chosen
    → IsPath net (edges_of net chosen) from to sum names → sum ≤ℤ value → ClosesByPath net (Bound from to value) chosen names
closes_by_path net chosen from to sum value names is_case path within =
    (path.walk, all_usable net chosen names is_case path.current, subst (λ (s : ℤ). s ≤ℤ value) (sym path.total) within, path.count)

-- the always-edges are usable in each case, and no others are at the root
pub meets_always : (net : Net) (chosen : Case) (times : List ℤ) → MeetsUsable net chosen times → MeetsAlways times net
meets_always net chosen times meets = record { count = meets.count; each = λ name e always there. meets.each name e (inl always) there }

always_usable : (net : Net) (name : EdgeName) → IsUsable net [] name → IsAlways net name
always_usable net name (inl always) = always
always_usable net name (inr (contains, on)) = absurd (omega (arith, contains.1))

pub always_meets : (net : Net) (times : List ℤ) → MeetsAlways times net → MeetsUsable net [] times
always_meets net times meets = record { count = meets.count; each = λ name e usable there. meets.each name e (always_usable net name usable) there }

-- the greatest separations at the root are the root bounds
pub root_upper : (net : Net) (from to : EventId) (upper : Option ℤ) → IsUpperIn net [] from to upper → IsRootBound net from to upper
root_upper net from to (Some value) greatest = record {
  attained = (greatest.attained.0, meets_always net [] greatest.attained.0 greatest.attained.1, greatest.attained.2);
  most = λ times meets. greatest.most times (always_meets net times meets);
}
root_upper net from to None unbounded =
    λ value. let past = unbounded value in (past.0, meets_always net [] past.0 past.1, past.2)
