-- The network apart from the order of lanes.
use Rattle.std.proofs.Common.{◌≡◌, ◌<◌, ◌≤◌, ◌+◌, ℕ, zero, suc, ℤ, Bool, true, false, IsTrue, List, [], ◌∷◌, ◌++◌, length, take, All, Option, Some, None, slice_get, refl, sym, subst, ap, ◌∙◌, arith}
use Rattle.std.specs.Prelude.{IsSomeAnd, if◌then◌else◌}
use Rattle.std.proofs.lemmas.List.{length-map, length-take-le, take_all}
use Rattle.std.proofs.lemmas.Option.{get_or_from_slice_get}
use Rattle.event_graph.proofs.EdgesMet.{All-found}
use Rattle.event_graph.proofs.Ends.{HasOwnEnds, all_own, ends_of_all}
use Rattle.itv_base.specs.declared.names.EdgeName.{EdgeName}
use Rattle.itv_base.proofs.Lists.{found_below, take_get}
use Rattle.origin.specs.declared.origin.Origin.{Origin}
use Rattle.event_graph.specs.declared.edge.Edge.{Edge}
use Rattle.event_graph.specs.Edges.{IsAlways, Meets, edge, holds_always}
use Rattle.event_graph.specs.Network.{Constraint, IsConstraint, IsNet, Net, with_constraint}
use Rattle.event_graph.specs.RootBound.{MeetsAlways}
use Rattle.event_graph.specs.Satisfying.{Holds}
use Rattle.drawn_networks.specs.Drawn.{Drawn, OriginsFit}
use Rattle.explanations.specs.Apart.{ApartIsWider, constraints_apart, keeps_order, net_apart}

-- ---- one constraint more

-- some constraints, and one more unless it keeps an order
abbrev one_more : Bool → List Constraint → Constraint → List Constraint
one_more keeps apart c = if keeps then apart else apart ++ c ∷ []

push_front : (keeps is_kept : Bool) (apart : List Constraint) (first c : Constraint)
    → (if is_kept then one_more keeps apart c else first ∷ one_more keeps apart c) ≡ one_more keeps (if is_kept then apart else first ∷ apart) c
push_front true true apart first c = refl
push_front true false apart first c = refl
push_front false true apart first c = refl
push_front false false apart first c = refl

apart-append : (cs : List Constraint) (os : List (List Origin)) (c : Constraint) (drew : List Origin) → length os ≡ length cs
    → constraints_apart (cs ++ c ∷ []) (os ++ drew ∷ []) ≡ one_more (keeps_order drew) (constraints_apart cs os) c
apart-append [] [] c drew same = alone (keeps_order drew)
  where
    alone : (keeps : Bool) → (if keeps then [] else c ∷ []) ≡ one_more keeps [] c
    alone true = refl
    alone false = refl
apart-append [] (o ∷ os) c drew same = absurd (omega (arith, same))
apart-append (first ∷ cs) [] c drew same = absurd (omega (arith, same))
apart-append (first ∷ cs) (o ∷ os) c drew same =
    ap (λ xs. if keeps_order o then xs else first ∷ xs) (apart-append cs os c drew (omega (arith, same)))
    ∙ push_front (keeps_order drew) (keeps_order o) (constraints_apart cs os) first c

-- each constraint has a list of origins
pub fit_length : (net : Net) (origins : List (List Origin)) → OriginsFit net origins → length origins ≡ length net.constraints
fit_length net origins fit =
    sym (length-map origins length) ∙ (ap length fit ∙ length-map net.constraints (λ (c : Constraint). length c.causes))

same_front : (k : ℕ) (cs : List Constraint) (os : List (List Origin)) → length os ≡ length cs → length (take k os) ≡ length (take k cs)
same_front zero cs os same = refl
same_front (suc k) [] [] same = refl
same_front (suc k) [] (o ∷ os) same = absurd (omega (arith, same))
same_front (suc k) (c ∷ cs) [] same = absurd (omega (arith, same))
same_front (suc k) (c ∷ cs) (o ∷ os) same = ap suc (same_front k cs os (omega (arith, same)))

-- the network apart of the first constraints, and of one more
apart_next : (cs : List Constraint) (os : List (List Origin)) (k : ℕ) (c : Constraint) (drew : List Origin) → length os ≡ length cs → slice_get cs k ≡ Some c
    → slice_get os k ≡ Some drew
    → constraints_apart (take (k + 1) cs) (take (k + 1) os) ≡ one_more (keeps_order drew) (constraints_apart (take k cs) (take k os)) c
apart_next cs os k c drew same at_c at_drew =
    rw (take_get cs k c at_c, take_get os k drew at_drew) (apart-append (take k cs) (take k os) c drew (same_front k cs os same))

-- the network apart of the first constraints
abbrev pub front_apart : Net → List (List Origin) → ℕ → Net
front_apart net origins k = record { events = net.events; constraints = constraints_apart (take k net.constraints) (take k origins) }

-- whether the constraint with this number keeps an order
abbrev pub IsOrder : List (List Origin) → ℕ → Bool → Type 0
IsOrder origins number keeps = IsSomeAnd (slice_get origins number) (λ drew. keeps ≡ keeps_order drew)

order_next : (net : Net) (origins : List (List Origin)) (k : ℕ) (keeps : Bool) (o : Option Constraint) (p : Option (List Origin)) → slice_get net.constraints k ≡ o
    → slice_get origins k ≡ p → length origins ≡ length net.constraints → k < length net.constraints → IsSomeAnd p (λ drew. keeps ≡ keeps_order drew)
    → (c : Constraint) × (o ≡ Some c)
    × (constraints_apart (take (k + 1) net.constraints) (take (k + 1) origins) ≡ one_more keeps (constraints_apart (take k net.constraints) (take k origins)) c)
order_next net origins k keeps None p at_o at_p same within order = absurd (past_none net.constraints k within at_o)
  where
    past_none : (xs : List Constraint) (i : ℕ) → i < length xs → slice_get xs i ≡ None → ⊥
    past_none [] i h e = omega arith
    past_none (x ∷ xs) zero h e = cc
    past_none (x ∷ xs) (suc i) h e = past_none xs i (omega arith) e
order_next net origins k keeps (Some c) None at_o at_p same within order = absurd order
order_next net origins k keeps (Some c) (Some drew) at_o at_p same within order = (
  c,
  refl,
  apart_next net.constraints origins k c drew same at_o at_p ∙ ap (λ b. one_more b (constraints_apart (take k net.constraints) (take k origins)) c) (sym order),
)

-- a constraint that keeps an order is left out
pub left_out : (net : Net) (origins : List (List Origin)) (k : ℕ) → OriginsFit net origins → k < length net.constraints → IsOrder origins k true
    → front_apart net origins (k + 1) ≡ front_apart net origins k
left_out net origins k fit within order =
    let n = order_next net origins k true (slice_get net.constraints k) (slice_get origins k) refl refl (fit_length net origins fit) within order in
    ap (λ (cs : List Constraint). record { events = net.events; constraints = cs }) n.2

-- there is room for each constraint that is copied
fewer_apart : (cs : List Constraint) (origins : List (List Origin)) → length (constraints_apart cs origins) ≤ length cs
fewer_apart [] origins = omega arith
fewer_apart (c ∷ cs) [] = omega arith
fewer_apart (c ∷ cs) (drew ∷ origins) = by_order (keeps_order drew) (constraints_apart cs origins) (fewer_apart cs origins)
  where
    by_order : (keeps : Bool) (xs : List Constraint) → length xs ≤ length cs → length (if keeps then xs else c ∷ xs) ≤ suc (length cs)
    by_order true xs fewer = omega (arith, fewer)
    by_order false xs fewer = omega (arith, fewer)

pub front_fits : (net : Net) (origins : List (List Origin)) (k : ℕ) → k ≤ length net.constraints → length (front_apart net origins k).constraints ≤ k
front_fits net origins k within = omega (arith, fewer_apart (take k net.constraints) (take k origins), length-take-le k net.constraints within)

-- a constraint that keeps no order is copied
pub copied_next : (net : Net) (origins : List (List Origin)) (k : ℕ) (old new : Net) → OriginsFit net origins → k < length net.constraints → IsOrder origins k false
    → old ≡ front_apart net origins k → IsSomeAnd (slice_get net.constraints k) (λ c. new ≡ with_constraint old c) → new ≡ front_apart net origins (k + 1)
copied_next net origins k old new fit within order before copied =
    let n = order_next net origins k false (slice_get net.constraints k) (slice_get origins k) refl refl (fit_length net origins fit) within order in
    let P : Option Constraint → Type 0 = λ o. IsSomeAnd o (λ c. new ≡ with_constraint old c) in
    let added : new ≡ with_constraint old n.0 = subst P n.1 copied in
    added ∙ (ap (λ (m : Net). with_constraint m n.0) before ∙ ap (λ (cs : List Constraint). record { events = net.events; constraints = cs }) (sym n.2))

-- after the last one this is the network apart
pub front_whole : (net : Net) (origins : List (List Origin)) (k : ℕ) → OriginsFit net origins → length net.constraints ≤ k
    → front_apart net origins k ≡ record { events = net.events; constraints = constraints_apart net.constraints origins }
front_whole net origins k fit all =
    let same : length origins ≡ length net.constraints = fit_length net origins fit in
    rw (take_all k net.constraints all, take_all k origins (omega (arith, same, all))) refl

-- ---- where no constraint keeps an order

-- no constraint so far keeps an order: the first constraints all stay
abbrev pub IsWhole : Net → List (List Origin) → ℕ → Type 0
IsWhole net origins k = constraints_apart (take k net.constraints) (take k origins) ≡ take k net.constraints

pub whole_next : (net : Net) (origins : List (List Origin)) (k : ℕ) → OriginsFit net origins → k < length net.constraints → IsOrder origins k false
    → IsWhole net origins k → IsWhole net origins (k + 1)
whole_next net origins k fit within order whole =
    let n = order_next net origins k false (slice_get net.constraints k) (slice_get origins k) refl refl (fit_length net origins fit) within order in
    n.2 ∙ (ap (λ cs. cs ++ n.0 ∷ []) whole ∙ sym (take_get net.constraints k n.0 n.1))

pub whole_apart : (drawn : Drawn) (k : ℕ) → OriginsFit drawn.net drawn.origins → length drawn.net.constraints ≤ k → IsWhole drawn.net drawn.origins k
    → net_apart drawn ≡ drawn.net
whole_apart drawn k fit all whole =
    let same : length drawn.origins ≡ length drawn.net.constraints = fit_length drawn.net drawn.origins fit in
    let e : constraints_apart drawn.net.constraints drawn.origins ≡ drawn.net.constraints =
    rw (take_all k drawn.net.constraints all, take_all k drawn.origins (omega (arith, same, all))) at whole in
    ap (λ (cs : List Constraint). record { events = drawn.net.events; constraints = cs }) e

-- ---- what the network apart asks

-- where a constraint of the network apart is found after the first, it is among the constraints after the first
found_in : (first : Constraint) (cs apart : List Constraint) (c : Constraint) → ((j : ℕ) → slice_get apart j ≡ Some c → (i : ℕ) × (slice_get cs i ≡ Some c)) → (keeps : Bool) (k : ℕ)
    → slice_get (if keeps then apart else first ∷ apart) k ≡ Some c → (i : ℕ) × (slice_get (first ∷ cs) i ≡ Some c)
found_in first cs apart c later true k here = let w = later k here in (suc w.0, w.1)
found_in first cs apart c later false zero here = (zero, here)
found_in first cs apart c later false (suc k) here = let w = later k here in (suc w.0, w.1)

-- each constraint of the network apart is a constraint of the drawn network
pub apart_within : (cs : List Constraint) (os : List (List Origin)) (k : ℕ) (c : Constraint) → slice_get (constraints_apart cs os) k ≡ Some c → (j : ℕ) × (slice_get cs j ≡ Some c)
apart_within [] os k c at = absurd (cc at)
apart_within (first ∷ cs) [] k c at = (k, at)
apart_within (first ∷ cs) (drew ∷ os) k c at = found_in first cs (constraints_apart cs os) c (λ j here. apart_within cs os j c here) (keeps_order drew) k at

-- what holds of each element that is found holds of all
each_found : (P : Constraint → Type 0) (cs : List Constraint) → ((k : ℕ) (c : Constraint) → slice_get cs k ≡ Some c → P c) → All P cs
each_found P cs each = λ k d within.
    let f = found_below cs k within in
    subst P (sym (get_or_from_slice_get cs k f.0 d f.1)) (each k f.0 f.1)

-- what holds of all constraints of a network holds of those that keep no order
all_apart : (P : Constraint → Type 0) (cs : List Constraint) (origins : List (List Origin)) → All P cs → All P (constraints_apart cs origins)
all_apart P cs origins all = each_found P (constraints_apart cs origins) (λ k c at. let w = apart_within cs origins k c at in All-found P cs w.0 c w.1 all)

-- so times that satisfy the drawn network satisfy the network apart
pub apart_is_wider : ApartIsWider
apart_is_wider drawn times sat = record { count = sat.count; each = all_apart (Holds times) drawn.net.constraints drawn.origins sat.each }

-- and the network apart is within the limits too
pub is_net_apart : (drawn : Drawn) → IsNet drawn.net → IsNet (net_apart drawn)
is_net_apart drawn is_net =
    let fewer = fewer_apart drawn.net.constraints drawn.origins in
    record {
      events = is_net.events;
      constraints = all_apart (IsConstraint drawn.net.events) drawn.net.constraints drawn.origins is_net.constraints;
      count = omega (arith, fewer, is_net.count);
      ends = ends_of_all (net_apart drawn) (all_apart HasOwnEnds drawn.net.constraints drawn.origins (all_own drawn.net is_net.ends));
    }

-- an always-edge, by the constraint of its number alone
always_at : (net other : Net) (name : EdgeName) (e : Edge) (number : ℕ) → slice_get other.constraints number ≡ slice_get net.constraints name.constraint → IsAlways net name
    → edge net name ≡ Some e → (IsAlways other (record name { constraint = number })) × (edge other (record name { constraint = number }) ≡ Some e)
always_at net other name e number same always is = (rw same always, rw same is)

always_apart : (drawn : Drawn) (times : List ℤ) → MeetsAlways times drawn.net → (name : EdgeName) (e : Edge) (o : Option Constraint)
    → slice_get (constraints_apart drawn.net.constraints drawn.origins) name.constraint ≡ o → IsAlways (net_apart drawn) name → edge (net_apart drawn) name ≡ Some e → Meets times e
always_apart drawn times meets name e None at always is =
    absurd (subst (λ (o : Option Constraint). IsSomeAnd o (λ c. IsTrue (holds_always c.kind (length c.causes) name.side))) at always.1)
always_apart drawn times meets name e (Some c) at always is =
    let w = apart_within drawn.net.constraints drawn.origins name.constraint c at in
    let there = always_at (net_apart drawn) drawn.net name e w.0 (w.1 ∙ sym at) always is in
    meets.each (record name { constraint = w.0 }) e there.0 there.1

-- times that meet the always-edges of the drawn network meet the always-edges of the network apart
pub always_is_wider : (drawn : Drawn) (times : List ℤ) → MeetsAlways times drawn.net → MeetsAlways times (net_apart drawn)
always_is_wider drawn times meets = record {
  count = meets.count;
  each = λ name e always is.
      always_apart drawn times meets name e (slice_get (constraints_apart drawn.net.constraints drawn.origins) name.constraint) refl always is;
}
