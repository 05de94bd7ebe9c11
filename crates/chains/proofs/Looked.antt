-- Edges that were looked at, one after another.
use Rattle.std.proofs.Common.{◌≡◌, ◌+◌, ◌<◌, ◌≤◌, ◌⊎◌, inl, inr, ℕ, ℤ, max, Bool, true, false, List, length, get_or, replicate, set, Some, option_map, slice_get, sym, ap, ◌∙◌, refl, subst, arith}
use Rattle.std.proofs.lemmas.Bool.{cases_eq, cases_lt, false≢true}
use Rattle.std.proofs.lemmas.Grind.{get_or-set_at}
use Rattle.std.proofs.lemmas.List.{get_or-replicate, get_or-set_other, get_or_past, length-replicate, length-set}
use Rattle.std.proofs.lemmas.Option.{slice_get_within}
use Rattle.itv_base.specs.declared.names.EdgeName.{EdgeName}
use Rattle.itv_base.specs.declared.names.EventId.{EventId}
use Rattle.itv_base.specs.declared.names.Side.{Side}
use Rattle.itv_base.specs.declared.names.Side.TheVariants.{Lower, Upper}
use Rattle.itv_base.proofs.Options.{then_some, some_and}
use Rattle.event_graph.specs.declared.edge.Edge.{Edge}
use Rattle.event_graph.specs.Edges.{edge}
use Rattle.event_graph.specs.Network.{Constraint, IsConstraint, IsNet, Net, cause_count_of}
use Rattle.event_graph.proofs.EdgesMet.{All-found, cause_of}
use Rattle.event_graph.proofs.Causes.{count_most, counted_is, same_event}
use Rattle.chains.specs.Chain.{IsTight}
use Rattle.chains.specs.Closed.{Has, IsClosedSet, DoesNotEnter}
use Rattle.chains.specs.Step.Spreading.{IsSpread, IsTightEdge, LooksAt, Spread, spread_at, spread_by}

-- ---- one edge

-- the edge does not enter a set that lacks its end or has its start
pub closed_at : (net : Net) (times : List ℤ) (set : List Bool) (name : EdgeName) (e : Edge) → edge net name ≡ Some e → (Has set e.to → Has set e.from)
    → DoesNotEnter net times set name
closed_at net times set name e is_edge enters tight = rw is_edge enters

-- an edge that is not tight does not enter any set
pub closed_loose : (net : Net) (times : List ℤ) (set : List Bool) (name : EdgeName) → (IsTight net times name → ⊥) → DoesNotEnter net times set name
closed_loose net times set name loose tight = absurd (loose tight)

-- an edge was looked at, and no event is reached by it
pub looked_past : (net : Net) (times : List ℤ) (name : EdgeName) (spread : Spread) → DoesNotEnter net times spread.reached name
    → LooksAt net times (λ other. other ≡ name) spread spread
looked_past net times name spread closed = record {
  events = refl;
  spreads = λ to is. is;
  more = omega arith;
  none = λ same. (refl, λ other is. subst (DoesNotEnter net times spread.reached) (sym is) closed);
}

-- one more event is reached by an edge that leads from it
pub spread_on : (net : Net) (times : List ℤ) (to : EventId) (name : EdgeName) (e : Edge) (spread : Spread) → IsTightEdge net times name e
    → e.from.0 < length spread.reached → Has spread.reached e.to → IsSpread net times to spread → IsSpread net times to (spread_by spread e.from name)
spread_on net times to name e spread is_edge within has is = record {
  count = length-set spread.reached e.from.0 true ∙ is.count;
  lead = ((rw is_edge.named is_edge.tight, is_edge.binds), rw is_edge.named (is.each e.to has), is.lead);
  each = λ event has_event. elim (cases_eq event.0 e.from.0) [
    | inl same ↦ inl (rw is_edge.named (sym (same_event event e.from same)))
    | inr other ↦ inr (is.each event (sym (get_or-set_other spread.reached e.from.0 event.0 true false other) ∙ has_event))
  ];
  end = elim (cases_eq to.0 e.from.0) [
    | inl same ↦ get_or-set_at spread.reached e.from.0 to.0 true false same within
    | inr other ↦ get_or-set_other spread.reached e.from.0 to.0 true false other ∙ is.end
  ];
}

pub looked_on : (net : Net) (times : List ℤ) (name : EdgeName) (e : Edge) (spread : Spread) → IsTightEdge net times name e → e.from.0 < length spread.reached
    → Has spread.reached e.to → LooksAt net times (λ other. other ≡ name) spread (spread_by spread e.from name)
looked_on net times name e spread is_edge within has = record {
  events = length-set spread.reached e.from.0 true;
  spreads = λ to is. spread_on net times to name e spread is_edge within has is;
  more = omega arith;
  none = λ same. absurd (omega arith);
}

-- ---- one after another

pub looked_none : (net : Net) (times : List ℤ) (spread : Spread) → LooksAt net times (λ name. ⊥) spread spread
looked_none net times spread = record { events = refl; spreads = λ to is. is; more = omega arith; none = λ same. (refl, λ name seen. absurd seen) }

-- first some edges were looked at, and then others: so all edges of a set were, if each of them that is tight is among these
pub looked_further : (net : Net) (times : List ℤ) (First Second Seen : EdgeName → Type 0) (old mid new : Spread) → LooksAt net times First old mid
    → LooksAt net times Second mid new → ((name : EdgeName) → IsTight net times name → Seen name → First name ⊎ Second name) → LooksAt net times Seen old new
looked_further net times First Second Seen old mid new first second among = record {
  events = second.events ∙ first.events;
  spreads = λ to is. second.spreads to (first.spreads to is);
  more = omega (arith, first.more, second.more);
  none = λ same.
      let first_same : length mid.found ≡ length old.found = omega (arith, first.more, second.more) in
      let second_same : length new.found ≡ length mid.found = omega (arith, first.more, second.more) in
      let before = first.none first_same in
      let after = second.none second_same in (
        after.0 ∙ before.0,
        λ name seen tight. elim (among name tight seen) [
          | inl in_first ↦ before.1 name in_first tight
          | inr in_second ↦ subst (λ (s : Spread). DoesNotEnter net times s.reached name) before.0 (after.1 name in_second) tight
        ],
      );
}

-- fewer edges
pub looked_fewer : (net : Net) (times : List ℤ) (Seen Fewer : EdgeName → Type 0) (old new : Spread) → LooksAt net times Seen old new
    → ((name : EdgeName) → IsTight net times name → Fewer name → Seen name) → LooksAt net times Fewer old new
looked_fewer net times Seen Fewer old new looked among = record {
  events = looked.events;
  spreads = looked.spreads;
  more = looked.more;
  none = λ same. ((looked.none same).0, λ name seen tight. (looked.none same).1 name (among name tight seen) tight);
}

-- ---- the edges of a constraint

-- an edge that is there is an edge of a constraint that is there, and of one of the causes that it names, or of cause 0 if it names none
edge_within : (net : Net) (name : EdgeName) (e : Edge) → IsNet net → edge net name ≡ Some e
    → (k : Constraint) × (slice_get net.constraints name.constraint ≡ Some k) × (name.cause < max (cause_count_of k) 1)
edge_within net name e is_net is_edge =
    let (k, at_k, rest) = then_some _ (slice_get net.constraints name.constraint) e is_edge in
    let (c, at_c, made) = cause_of net name k e at_k is_edge in
    let is : IsConstraint net.events k = All-found (IsConstraint net.events) net.constraints name.constraint k at_k is_net.constraints in
    let within : name.cause < length k.causes = slice_get_within k.causes name.cause c at_c in
    let most : length k.causes ≤ max (cause_count_of k) 1 = count_most k.kind (length k.causes) is.count in
    (k, at_k, omega arith)

-- the edges of a constraint with the causes below a number
abbrev pub HasCauseBelow : ℕ → ℕ → EdgeName → Type 0
HasCauseBelow number count name = (name.constraint ≡ number) × (name.cause < count)

abbrev pub edge_name : ℕ → ℕ → Side → EdgeName
edge_name number cause side = record { constraint = number; cause = cause; side = side }

named_as : (name : EdgeName) (number cause : ℕ) (side : Side) → name.constraint ≡ number → name.cause ≡ cause → name.side ≡ side → name ≡ edge_name number cause side
named_as name number cause side is_number is_cause is_side =
    ap (λ (n : ℕ). edge_name n name.cause name.side) is_number ∙ ap (λ (n : ℕ). edge_name number n name.side) is_cause ∙ ap (edge_name number cause) is_side

on_a_side : (name : EdgeName) (number cause : ℕ) (side : Side) → name.side ≡ side → name.constraint ≡ number → name.cause ≡ cause
    → (name ≡ edge_name number cause Lower) ⊎ (name ≡ edge_name number cause Upper)
on_a_side name number cause Lower is_side is_number is_cause = inl (named_as name number cause Lower is_number is_cause is_side)
on_a_side name number cause Upper is_side is_number is_cause = inr (named_as name number cause Upper is_number is_cause is_side)

-- both edges of the next cause were looked at
pub causes_more : (net : Net) (times : List ℤ) (number cause : ℕ) (old before between new : Spread) → LooksAt net times (HasCauseBelow number cause) old before
    → LooksAt net times (λ name. name ≡ edge_name number cause Lower) before between → LooksAt net times (λ name. name ≡ edge_name number cause Upper) between new
    → LooksAt net times (HasCauseBelow number (cause + 1)) old new
causes_more net times number cause old before between new first lower upper =
    let both : LooksAt net times (λ name. (name ≡ edge_name number cause Lower) ⊎ (name ≡ edge_name number cause Upper)) before new =
    looked_further net times (λ name. name ≡ edge_name number cause Lower) (λ name. name ≡ edge_name number cause Upper) _ before between new lower upper
    (λ name tight among. among) in
    looked_further net times (HasCauseBelow number cause) _ (HasCauseBelow number (cause + 1)) old before new first both
    (λ name tight (is_number, below). elim (cases_eq name.cause cause) [
      | inl same ↦ inr (on_a_side name number cause name.side refl is_number same)
      | inr apart ↦ inl (is_number, omega arith)
    ])

-- at first none of its edges was
pub causes_none : (net : Net) (times : List ℤ) (number : ℕ) (spread : Spread) → LooksAt net times (HasCauseBelow number 0) spread spread
causes_none net times number spread =
    looked_fewer net times (λ name. ⊥) (HasCauseBelow number 0) spread spread (looked_none net times spread) (λ name tight (is_number, below). omega arith)

-- at the end all of its edges were
pub causes_all : (net : Net) (times : List ℤ) (number count : ℕ) (old new : Spread) → IsNet net
    → option_map cause_count_of (slice_get net.constraints number) ≡ Some count → LooksAt net times (HasCauseBelow number (max count 1)) old new
    → LooksAt net times (λ (name : EdgeName). name.constraint ≡ number) old new
causes_all net times number count old new is_net counted looked =
    looked_fewer net times (HasCauseBelow number (max count 1)) (λ (name : EdgeName). name.constraint ≡ number) old new looked
    (λ name tight is_number.
    let (e, is_edge, rest) = some_and (edge net name) _ tight.0 in
    let (k, at_k, below) = edge_within net name e is_net is_edge in
    let same : cause_count_of k ≡ count = counted_is cause_count_of (slice_get net.constraints number) k count counted (ap (slice_get net.constraints) (sym is_number) ∙ at_k) in
    (is_number, subst (λ n. name.cause < max n 1) same below))

-- ---- the edges of all constraints

-- the edges of the constraints below a number
abbrev pub HasConstraintBelow : ℕ → EdgeName → Type 0
HasConstraintBelow count name = name.constraint < count

abbrev pub IsAny : EdgeName → Type 0
IsAny name = Unit {0}

pub constraints_none : (net : Net) (times : List ℤ) (spread : Spread) → LooksAt net times (HasConstraintBelow 0) spread spread
constraints_none net times spread =
    looked_fewer net times (λ name. ⊥) (HasConstraintBelow 0) spread spread (looked_none net times spread) (λ name tight below. omega arith)

pub constraints_more : (net : Net) (times : List ℤ) (count : ℕ) (old mid new : Spread) → LooksAt net times (HasConstraintBelow count) old mid
    → LooksAt net times (λ (name : EdgeName). name.constraint ≡ count) mid new → LooksAt net times (HasConstraintBelow (count + 1)) old new
constraints_more net times count old mid new first next =
    looked_further net times (HasConstraintBelow count) (λ (name : EdgeName). name.constraint ≡ count) (HasConstraintBelow (count + 1)) old mid new first next
    (λ name tight below. elim (cases_eq name.constraint count) [ inl same ↦ inr same | inr apart ↦ inl (omega arith) ])

pub constraints_all : (net : Net) (times : List ℤ) (old new : Spread) → IsNet net → LooksAt net times (HasConstraintBelow (length net.constraints)) old new
    → LooksAt net times IsAny old new
constraints_all net times old new is_net looked =
    looked_fewer net times (HasConstraintBelow (length net.constraints)) IsAny old new looked
    (λ name tight any.
    let (e, is_edge, rest) = some_and (edge net name) _ tight.0 in
    let (k, at_k, below) = edge_within net name e is_net is_edge in
    slice_get_within net.constraints name.constraint k at_k)

-- all edges were looked at, and then some of them again
pub looked_again : (net : Net) (times : List ℤ) (Again : EdgeName → Type 0) (old mid new : Spread) → LooksAt net times IsAny old mid → LooksAt net times Again mid new
    → LooksAt net times IsAny old new
looked_again net times Again old mid new all again = looked_further net times IsAny Again IsAny old mid new all again (λ name tight any. inl any)

-- where no event is new, the reached events are closed
pub closed_then : (net : Net) (times : List ℤ) (old new : Spread) → LooksAt net times IsAny old new → length new.found ≡ length old.found
    → IsClosedSet net times new.reached
closed_then net times old new looked same name =
    subst (λ (s : Spread). DoesNotEnter net times s.reached name) (sym (looked.none same).0) ((looked.none same).1 name tt)

-- and an event that was not reached before is not reached
pub unreached_then : (net : Net) (times : List ℤ) (old new : Spread) (event : EventId) → LooksAt net times IsAny old new → length new.found ≡ length old.found
    → get_or old.reached event.0 false ≡ false → Has new.reached event → ⊥
unreached_then net times old new event looked same unreached has =
    false≢true (sym unreached ∙ subst (λ (s : Spread). Has s.reached event) (looked.none same).0 has)

-- ---- the beginning

-- at first only the event to which all events are to lead is reached
pub begun : (net : Net) (times : List ℤ) (to : EventId) → to.0 < net.events → IsSpread net times to (spread_at net.events to)
begun net times to within =
    let inside : to.0 < length (replicate net.events false) = omega (arith, length-replicate {A = Bool}) in
    record {
      count = length-set (replicate net.events false) to.0 true ∙ length-replicate net.events false;
      lead = tt;
      each = λ event has. elim (cases_eq event.0 to.0) [
        | inl same ↦ same_event event to same
        | inr other ↦
            absurd (false≢true (sym (unset net.events event.0) ∙ sym (get_or-set_other (replicate net.events false) to.0 event.0 true false other) ∙ has))
      ];
      end = get_or-set_at (replicate net.events false) to.0 to.0 true false refl inside;
    }
  where
    unset : (n k : ℕ) → get_or (replicate n false) k false ≡ false
    unset n k = elim (cases_lt k n) [
      | inl below ↦ get_or-replicate n k false false below
      | inr past ↦ get_or_past (replicate n false) k false (omega (arith, length-replicate {A = Bool}))
    ]

-- events that are reached from this beginning on lead to this event
pub spread_from : (net : Net) (times : List ℤ) (to : EventId) (events : ℕ) (start new : Spread) → to.0 < net.events → events ≡ net.events → start ≡ spread_at events to
    → ((last : EventId) → IsSpread net times last start → IsSpread net times last new) → IsSpread net times to new
spread_from net times to events start new within same first spreads =
    spreads to (subst (IsSpread net times to) (sym (first ∙ ap (λ (n : ℕ). spread_at n to) same)) (begun net times to within))
