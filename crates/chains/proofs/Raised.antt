-- Sets of events that no tight edge enters. Their events are raised by a picosecond.
use Rattle.std.proofs.Common.{◌≡◌, ℕ, zero, suc, ℤ, pos, ◌+ℤ◌, ◌-ℤ◌, ◌≤ℤ◌, ◌<ℤ◌, ◌<◌, ◌⊎◌, inl, inr, Bool, true, false, cond, if◌then◌else◌, List, [], ◌∷◌, All, length, get_or, Option, Some, None, IfSome, IsSome, IsSomeAnd, slice_get, sym, ap, ◌∙◌, refl, subst, arith}
use Rattle.std.proofs.lemmas.Int.{ints, by_lt_z}
use Rattle.std.proofs.lemmas.Bool.{cases_eq, false≢true}
use Rattle.std.proofs.lemmas.Option.{slice_get-get_or, slice_get_within}
use Rattle.std.proofs.lemmas.List.Elements.{All-head, All-tail}
use Rattle.itv_base.specs.declared.names.EdgeName.{EdgeName}
use Rattle.itv_base.specs.declared.names.EventId.{EventId}
use Rattle.itv_base.proofs.Options.{if_some, some_and}
use Rattle.event_graph.specs.declared.edge.Edge.{Edge}
use Rattle.event_graph.specs.declared.cause.Cause.{Cause}
use Rattle.event_graph.specs.Network.{Constraint, IsNet, Net, cause_at}
use Rattle.event_graph.specs.Satisfying.{Holds, Satisfies}
use Rattle.event_graph.specs.Times.{raised, separation, time_of}
use Rattle.event_graph.specs.Edges.{Meets, choice_side, edge}
use Rattle.event_graph.specs.Laws.{MeetsAlwaysOf, MeetsSomeChoice}
use Rattle.event_graph.specs.Proof.{HasChoice, IsWalk, path_sum, weight_of}
use Rattle.event_graph.proofs.ByEdges.{holds_by_edges}
use Rattle.event_graph.proofs.EdgesMet.{at_some}
use Rattle.event_graph.proofs.Rays.{length-raised}
use Rattle.chains.specs.Chain.{AreBest, IsBinding, IsChain, IsExceeded, IsTight}
use Rattle.chains.specs.Closed.{Has, IsClosedSet, DoesNotEnter}
use Rattle.chains.specs.Laws.{ChainSums, ClosedSetRises}

-- ---- times of raised events

-- by how much a time is raised
abbrev rise : Bool → ℤ
rise is_in = cond is_in (pos 1) (pos 0)

raised_time : (is_in : Bool) (time : ℤ) → (if is_in then time +ℤ pos 1 else time) ≡ time +ℤ rise is_in
raised_time true time = refl
raised_time false time = omega (arith, ints)

-- the time of a raised event, by its flag
pub raised_at : (set : List Bool) (times : List ℤ) (k : ℕ) → length set ≡ length times
    → get_or (raised set 1 times) k (pos 0) ≡ get_or times k (pos 0) +ℤ rise (get_or set k false)
raised_at [] [] k same = omega (arith, ints)
raised_at [] (time ∷ times) k same = absurd (omega arith)
raised_at (is_in ∷ set) [] k same = absurd (omega arith)
raised_at (is_in ∷ set) (time ∷ times) zero same = raised_time is_in time
raised_at (is_in ∷ set) (time ∷ times) (suc k) same = raised_at set times k (omega arith)

-- ---- one edge

-- one inequality: the later time is raised alone only where a picosecond is to spare
kept : (earlier later weight : ℤ) (in_earlier in_later : Bool) → (later -ℤ earlier) ≤ℤ weight
    → ((later -ℤ earlier) ≡ weight → in_later ≡ true → in_earlier ≡ true)
    → ((later +ℤ rise in_later) -ℤ (earlier +ℤ rise in_earlier)) ≤ℤ weight
kept earlier later weight true true meets closed = omega (arith, ints)
kept earlier later weight true false meets closed = omega (arith, ints)
kept earlier later weight false false meets closed = omega (arith, ints)
kept earlier later weight false true meets closed =
    by_lt_z (later -ℤ earlier) weight (λ spare. omega (arith, ints))
    (λ least. let tight : (later -ℤ earlier) ≡ weight = omega (arith, ints) in absurd (false≢true (closed tight refl)))

-- one inequality with a picosecond to spare
spared : (earlier later weight : ℤ) (in_earlier in_later : Bool) → (later -ℤ earlier) <ℤ weight → ((later +ℤ rise in_later) -ℤ (earlier +ℤ rise in_earlier)) ≤ℤ weight
spared earlier later weight true true spare = omega (arith, ints)
spared earlier later weight true false spare = omega (arith, ints)
spared earlier later weight false true spare = omega (arith, ints)
spared earlier later weight false false spare = omega (arith, ints)

-- an edge with room at the times is met by the raised times
spare_raised : (times : List ℤ) (set : List Bool) (e : Edge) → length set ≡ length times → separation times e.from e.to <ℤ e.weight → Meets (raised set 1 times) e
spare_raised times set e same spare =
    rw (raised_at set times e.from.0 same, raised_at set times e.to.0 same)
    (spared (time_of times e.from) (time_of times e.to) e.weight (get_or set e.from.0 false) (get_or set e.to.0 false) spare)

-- an edge that binds and that the times meet is also met by the raised times
meets_raised : (net : Net) (times : List ℤ) (set : List Bool) (name : EdgeName) (e : Edge) → length set ≡ length times → IsBinding net times name
    → DoesNotEnter net times set name → edge net name ≡ Some e → Meets times e → Meets (raised set 1 times) e
meets_raised net times set name e same binds closed is_edge meets =
    let tight : separation times e.from e.to ≡ e.weight → IsTight net times name = λ is_tight. (rw is_edge is_tight, binds) in
    let enters : separation times e.from e.to ≡ e.weight → Has set e.to → Has set e.from =
    λ is_tight. at_some (λ d. Has set d.to → Has set d.from) (edge net name) e is_edge (closed (tight is_tight)) in
    rw (raised_at set times e.from.0 same, raised_at set times e.to.0 same)
    (kept (time_of times e.from) (time_of times e.to) e.weight (get_or set e.from.0 false) (get_or set e.to.0 false) meets enters)

-- ---- all constraints

always_raised : (net : Net) (times : List ℤ) (set : List Bool) (number : ℕ) → length set ≡ length times → IsClosedSet net times set → MeetsAlwaysOf times net number
    → MeetsAlwaysOf (raised set 1 times) net number
always_raised net times set number same closed meets name e is_number always is_edge =
    meets_raised net times set name e same (inl always) (closed name) is_edge (meets name e is_number always is_edge)

-- ---- room

-- the end of an edge is open, or the times are not yet at it
abbrev HasRoom : List ℤ → Option Edge → Type 0
HasRoom times o = IfSome o (λ e. separation times e.from e.to <ℤ e.weight)

-- the end of an edge is there, and the times are at it or past it
abbrev HasNoRoom : List ℤ → Option Edge → Type 0
HasNoRoom times o = IsSomeAnd o (λ e. e.weight ≤ℤ separation times e.from e.to)

room_or_none : (times : List ℤ) (o : Option Edge) → HasRoom times o ⊎ HasNoRoom times o
room_or_none times None = inl tt
room_or_none times (Some e) = by_lt_z (separation times e.from e.to) e.weight (λ spare. inl spare) (λ none. inr none)

-- below a number, either something holds somewhere or something else holds everywhere
some_or_all : (P Q : ℕ → Type 0) → ((k : ℕ) → P k ⊎ Q k) → (n : ℕ) → ((k : ℕ) × (k < n) × P k) ⊎ ((k : ℕ) → k < n → Q k)
some_or_all P Q each zero = inr (λ k below. absurd (omega arith))
some_or_all P Q each (suc n) = elim (some_or_all P Q each n) [
  | inl (k, below, here) ↦ inl (k, omega arith, here)
  | inr all ↦ elim (each n) [
    | inl here ↦ inl (n, omega arith, here)
    | inr last ↦ inr (λ k below. elim (cases_eq k n) [ inl same ↦ subst Q (sym same) last | inr apart ↦ all k (omega arith) ])
  ]
]

within_of : (causes : List Cause) (k : ℕ) (o : Option Cause) → slice_get causes k ≡ o → IsSome o → k < length causes
within_of causes k None at_k some = absurd (false≢true some)
within_of causes k (Some c) at_k some = slice_get_within causes k c at_k

-- a cause that is there is one of the constraint's causes
cause_within : (net : Net) (number k : ℕ) (c : Constraint) → slice_get net.constraints number ≡ Some c → IsSome (cause_at net number k) → k < length c.causes
cause_within net number k c at_c some = within_of c.causes k (slice_get c.causes k) refl (rw at_c at some)

-- if a cause has room, the raised times meet its choice; if none has, the choice that the times meet binds
choice_raised : (net : Net) (times : List ℤ) (set : List Bool) (number : ℕ) (c : Constraint) → length set ≡ length times → IsClosedSet net times set
    → slice_get net.constraints number ≡ Some c → MeetsSomeChoice times net number c → MeetsSomeChoice (raised set 1 times) net number c
choice_raised net times set number c same closed at_c (cause, within, met) =
    let choice : ℕ → EdgeName = λ k. record { constraint = number; cause = k; side = choice_side c.kind } in
    elim (some_or_all (λ k. HasRoom times (edge net (choice k))) (λ k. HasNoRoom times (edge net (choice k))) (λ k. room_or_none times (edge net (choice k)))
    (length c.causes)) [
      | inl (k, below, room) ↦ (
        k,
        below,
        if_some (edge net (choice k)) (Meets (raised set 1 times))
            (λ e is_edge. spare_raised times set e same (at_some (λ d. separation times d.from d.to <ℤ d.weight) (edge net (choice k)) e is_edge room)),
      )
      | inr none ↦
          let binds : IsBinding net times (choice cause) = inr (λ k some. none k (cause_within net number k c at_c some)) in (
            cause,
            within,
            if_some (edge net (choice cause)) (Meets (raised set 1 times))
                (λ e is_edge. meets_raised net times set (choice cause) e same binds (closed (choice cause)) is_edge
                (at_some (Meets times) (edge net (choice cause)) e is_edge met)),
          )
    ]

constraint_raised : (net : Net) (times : List ℤ) (set : List Bool) (number : ℕ) (c : Constraint) → IsNet net → length set ≡ length times → IsClosedSet net times set
    → slice_get net.constraints number ≡ Some c → Holds times c → Holds (raised set 1 times) c
constraint_raised net times set number c is_net same closed at_c holds =
    let met : MeetsAlwaysOf times net number × (HasChoice c.kind → MeetsSomeChoice times net number c) = (holds_by_edges net number c times is_net at_c).0 holds in
    (holds_by_edges net number c (raised set 1 times) is_net at_c).1 (
      always_raised net times set number same closed met.0,
      λ has. choice_raised net times set number c same closed at_c (met.1 has),
    )

pub closed_set_rises : ClosedSetRises
closed_set_rises net times set is_net count satisfies closed =
    let same : length set ≡ length times = count ∙ sym satisfies.count in
    record {
      count = length-raised set 1 times ∙ satisfies.count;
      each = λ k d within.
          constraint_raised net times set k (get_or net.constraints k d) is_net same closed (slice_get-get_or net.constraints k d within) (satisfies.each k d within);
    }

-- if the from-event is outside of a closed set that has the to-event, the raised times have a greater separation
pub unreached_exceeded : (net : Net) (times : List ℤ) (set : List Bool) (from to : EventId) → IsNet net → length set ≡ net.events → IsClosedSet net times set
    → Has set to → (Has set from → ⊥) → Satisfies times net → IsExceeded net times from to
unreached_exceeded net times set from to is_net count closed has lacks satisfies =
    let same : length set ≡ length times = count ∙ sym satisfies.count in
    let at_from : time_of (raised set 1 times) from ≡ time_of times from +ℤ rise (get_or set from.0 false) = raised_at set times from.0 same in
    let at_to : time_of (raised set 1 times) to ≡ time_of times to +ℤ rise (get_or set to.0 false) = raised_at set times to.0 same in
    let stays : get_or set from.0 false ≡ false = unset (get_or set from.0 false) lacks in
    let goes : get_or set to.0 false ≡ true = has in
    let from_is = rw stays at at_from in
    let to_is = rw goes at at_to in
    (raised set 1 times, closed_set_rises net times set is_net count satisfies closed, farther (time_of times from) (time_of times to) _ _ from_is to_is)
  where
    unset : (b : Bool) → (b ≡ true → ⊥) → b ≡ false
    unset true lacks = absurd (lacks refl)
    unset false lacks = refl

    farther : (a b a' b' : ℤ) → a' ≡ a +ℤ pos 0 → b' ≡ b +ℤ pos 1 → (b -ℤ a) <ℤ (b' -ℤ a')
    farther a b a' b' is_a is_b = omega (arith, ints)

-- so the times are not the best
pub not_best : (net : Net) (times : List ℤ) (from to : EventId) → IsExceeded net times from to → AreBest net times from to → ⊥
not_best net times from to (others, satisfies, farther) best =
    let most : separation others from to ≤ℤ separation times from to = best.most others satisfies in
    omega (arith, ints)

-- ---- chains

-- the weight of a named edge that is tight
pub tight_at : (net : Net) (times : List ℤ) (name : EdgeName) (e : Edge) → edge net name ≡ Some e → IsTight net times name → separation times e.from e.to ≡ e.weight
tight_at net times name e is_edge tight = let P : Option Edge → Type 0 = λ o. IsSomeAnd o (λ d. separation times d.from d.to ≡ d.weight) in subst P is_edge tight.0

sums : (net : Net) (times : List ℤ) (to : EventId) (names : List EdgeName) (from : EventId) → IsWalk net from names to → All (IsTight net times) names
    → path_sum net names ≡ separation times from to
sums net times to [] from walk tight = let same : time_of times from ≡ time_of times to = ap (time_of times) walk in omega (arith, ints)
sums net times to (name ∷ names) from walk tight =
    let found = some_and (edge net name) (λ e. (e.from ≡ from) × IsWalk net e.to names to) walk in
    let here : separation times found.0.from found.0.to ≡ found.0.weight = tight_at net times name found.0 found.1 (All-head (IsTight net times) name names tight) in
    let rest : path_sum net names ≡ separation times found.0.to to = sums net times to names found.0.to found.2.1 (All-tail (IsTight net times) name names tight) in
    let begins : time_of times found.0.from ≡ time_of times from = ap (time_of times) found.2.0 in
    let weight : weight_of (edge net name) ≡ found.0.weight = ap weight_of found.1 in
    rw weight (omega (arith, ints))

pub chain_sums : ChainSums
chain_sums net times from to names chain = sums net times to names from chain.walk chain.tight

-- a closed set that has the end of a walk along tight edges also has the start of the walk
pub walk_within : (net : Net) (times : List ℤ) (set : List Bool) (to : EventId) (names : List EdgeName) (from : EventId) → IsClosedSet net times set → Has set to
    → IsWalk net from names to → All (IsTight net times) names → Has set from
walk_within net times set to [] from closed has walk tight = subst (Has set) (sym walk) has
walk_within net times set to (name ∷ names) from closed has walk tight =
    let found = some_and (edge net name) (λ e. (e.from ≡ from) × IsWalk net e.to names to) walk in
    let later : Has set found.0.to = walk_within net times set to names found.0.to closed has found.2.1 (All-tail (IsTight net times) name names tight) in
    let enters : Has set found.0.to → Has set found.0.from =
    at_some (λ d. Has set d.to → Has set d.from) (edge net name) found.0 found.1 (closed name (All-head (IsTight net times) name names tight)) in
    subst (Has set) found.2.0 (enters later)

-- so no chain leads into a closed set from outside
pub no_chain : (net : Net) (times : List ℤ) (set : List Bool) (from to : EventId) → IsClosedSet net times set → Has set to → (Has set from → ⊥) → (names : List EdgeName)
    → IsChain net times from to names → ⊥
no_chain net times set from to closed has lacks names chain = lacks (walk_within net times set to names from closed has chain.walk chain.tight)
