-- Walks by the names of their edges, and the times along them.
use Rattle.std.proofs.Common.{◌≡◌, ℕ, ℤ, ◌+ℤ◌, ◌-ℤ◌, ◌≤ℤ◌, List, [], ◌∷◌, ◌++◌, reverse, All, Some, sym, ◌∙◌, ap, subst, refl, arith}
use Rattle.std.proofs.lemmas.Int.{ints}
use Rattle.std.proofs.lemmas.Grind.{reverse_onto}
use Rattle.std.proofs.lemmas.List.Elements.{All-head, All-push, All-tail}
use Rattle.itv_base.specs.declared.names.EdgeName.{EdgeName}
use Rattle.itv_base.specs.declared.names.EventId.{EventId}
use Rattle.itv_base.proofs.Options.{some_and, and_some}
use Rattle.event_graph.specs.declared.edge.Edge.{Edge}
use Rattle.event_graph.specs.Edges.{Meets, edge}
use Rattle.event_graph.specs.Network.{Net}
use Rattle.event_graph.specs.Proof.{IsWalk, path_sum, weight_of}
use Rattle.event_graph.specs.Times.{separation, time_of}

abbrev pub event : ℕ → EventId
event n = record { 0 = n }

pub walk-append : (net : Net) (a b c : EventId) (xs ys : List EdgeName) → IsWalk net a xs b → IsWalk net b ys c → IsWalk net a (xs ++ ys) c
walk-append net a b c [] ys first second = let P : EventId → Type 0 = λ x. IsWalk net x ys c in subst P (sym first) second
walk-append net a b c (name ∷ xs) ys first second =
    let found = some_and (edge net name) (λ e. (e.from ≡ a) × IsWalk net e.to xs b) first in
    and_some (edge net name) (λ e. (e.from ≡ a) × IsWalk net e.to (xs ++ ys) c) found.0 found.1 (found.2.0, walk-append net found.0.to b c xs ys found.2.1 second)

pub sum-append : (net : Net) (xs ys : List EdgeName) → path_sum net (xs ++ ys) ≡ path_sum net xs +ℤ path_sum net ys
sum-append net [] ys = omega (arith, ints)
sum-append net (name ∷ xs) ys = let rest : path_sum net (xs ++ ys) ≡ path_sum net xs +ℤ path_sum net ys = sum-append net xs ys in omega (arith, ints)

pub sum-reverse : (net : Net) (names : List EdgeName) → path_sum net (reverse names) ≡ path_sum net names
sum-reverse net [] = refl
sum-reverse net (name ∷ names) =
    let pushed : path_sum net (reverse names ++ name ∷ []) ≡ path_sum net (reverse names) +ℤ path_sum net (name ∷ []) = sum-append net (reverse names) (name ∷ []) in
    let rest : path_sum net (reverse names) ≡ path_sum net names = sum-reverse net names in
    ap (path_sum net) (reverse_onto names name []) ∙ omega (arith, ints)

pub All-reverse : {X : Type 0} (P : X → Type 0) (xs : List X) → All P xs → All P (reverse xs)
All-reverse P [] all = all
All-reverse {X} P (x ∷ xs) all =
    let Q : List X → Type 0 = λ ys. All P ys in
    subst Q (sym (reverse_onto xs x [])) (All-push P (reverse xs) x (All-reverse P xs (All-tail P x xs all)) (All-head P x xs all))

-- times that meet the edge of a name, where there is one
abbrev pub MeetsNamed : Net → List ℤ → EdgeName → Type 0
MeetsNamed net times name = (e : Edge) → edge net name ≡ Some e → Meets times e

weight-at : (net : Net) (name : EdgeName) (e : Edge) → edge net name ≡ Some e → weight_of (edge net name) ≡ e.weight
weight-at net name e is = ap weight_of is

-- along a walk whose edges the times meet, the times rise by at most the sum of the walk
pub walk_bounds : (net : Net) (times : List ℤ) (walk : List EdgeName) (a b : EventId) → All (MeetsNamed net times) walk → IsWalk net a walk b → separation times a b ≤ℤ path_sum net walk
walk_bounds net times [] a b met walk =
    let same : time_of times a ≡ time_of times b = ap (time_of times) walk in omega (arith, ints)
walk_bounds net times (name ∷ walk) a b met walked =
    let found = some_and (edge net name) (λ e. (e.from ≡ a) × IsWalk net e.to walk b) walked in
    let e : Edge = found.0 in
    let rest : (time_of times b -ℤ time_of times e.to) ≤ℤ path_sum net walk = walk_bounds net times walk e.to b (All-tail (MeetsNamed net times) name walk met) found.2.1 in
    let here : (time_of times e.to -ℤ time_of times e.from) ≤ℤ e.weight = All-head (MeetsNamed net times) name walk met e found.1 in
    let from : time_of times e.from ≡ time_of times a = ap (time_of times) found.2.0 in
    let weight : weight_of (edge net name) ≡ e.weight = weight-at net name e found.1 in
    omega (arith, ints)
