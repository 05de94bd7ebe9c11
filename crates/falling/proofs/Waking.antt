-- What a fall leaves tried.
use Rattle.std.proofs.Common.{◌≡◌, ◌≢◌, ◌*◌, ◌<◌, inl, inr, ℕ, ℤ, pos, ◌+ℤ◌, ◌≤ℤ◌, ◌<ℤ◌, List, All, Contains, length, get_or, set, Option, Some, None, IfSome, IsSomeAnd, slice_get, sym, ap, ◌∙◌, refl, subst, arith}
use Rattle.std.proofs.lemmas.Int.{ints}
use Rattle.std.proofs.lemmas.Bool.{cases_eq, cases_lt}
use Rattle.std.proofs.lemmas.Option.{slice_get-get_or}
use Rattle.std.proofs.lemmas.List.{get_or-set_other, set_past}
use Rattle.std.proofs.lemmas.Grind.{get_or-set_at}
use Rattle.std.proofs.lemmas.List.Elements.{All-contains}
use Rattle.itv_base.specs.declared.names.EdgeName.{EdgeName}
use Rattle.itv_base.specs.declared.names.EventId.{EventId}
use Rattle.itv_base.specs.declared.names.Side.TheVariants.{Upper}
use Rattle.itv_base.proofs.Options.{some_and, and_some}
use Rattle.event_graph.specs.declared.cause.Cause.{Cause}
use Rattle.event_graph.specs.declared.edge.Edge.{Edge}
use Rattle.event_graph.specs.Edges.{edge}
use Rattle.event_graph.specs.Network.{Constraint, Net}
use Rattle.event_graph.specs.Times.{time_of}
use Rattle.falling.specs.declared.line.FallLine.{FallLine}
use Rattle.falling.specs.declared.line.Reason.TheVariants.{ByEdge, ByLatest}
use Rattle.event_graph.specs.EventLists.{at_event}
use Rattle.falling.specs.Agenda.{Agenda, IsAgendaFor}
use Rattle.falling.specs.Step.Agenda.{AreOthersTried, IsPending}
use Rattle.falling.specs.Derivation.{IsLatestHigh}
use Rattle.falling.specs.Step.Turns.{IsConstraintTried, IsFirstOf, IsTried, IsTurnLine}

-- no edge of the constraint of a number starts at the event
abbrev pub StartsNone : Net → EventId → ℕ → Type 0
StartsNone net event number = (name : EdgeName) (e : Edge) → name.constraint ≡ number → edge net name ≡ Some e → e.from.0 ≢ event.0

-- the time of another event stays
other_time : (values : List ℤ) (event other : EventId) (value : ℤ) → other.0 ≢ event.0 → time_of (set values event.0 value) other ≡ time_of values other
other_time values event other value apart = get_or-set_other values event.0 other.0 value (pos 0) apart

-- no time rises
time_falls : (values : List ℤ) (event other : EventId) (value : ℤ) → value <ℤ time_of values event → time_of (set values event.0 value) other ≤ℤ time_of values other
time_falls values event other value lower = elim (cases_eq other.0 event.0) [
  | inl same ↦ elim (cases_lt event.0 (length values)) [
    | inl within ↦
        rw (get_or-set_at values event.0 other.0 value (pos 0) same within, same) (omega (arith, ints))
    | inr past ↦ rw (set_past values event.0 value past) (omega (arith, ints))
  ]
  | inr apart ↦ rw (other_time values event other value apart) (omega (arith, ints))
]

below_of : (a b c : ℤ) → a <ℤ b → b ≤ℤ c → a <ℤ c
below_of a b c p q = omega (arith, ints)

-- a line by an edge that starts elsewhere was allowed before the fall
edge_before : (net : Net) (values : List ℤ) (event : EventId) (value : ℤ) (name : EdgeName) → value <ℤ time_of values event
    → StartsNone net event name.constraint → IsTried net values (ByEdge name) → IsTried net (set values event.0 value) (ByEdge name)
edge_before net values event value name lower none tried target due allowed =
    let (e, is_edge, meets) = some_and (edge net name) _ allowed.due.1 in
    let same : time_of (set values event.0 value) e.from ≡ time_of values e.from = other_time values event e.from value (none name e refl is_edge) in
    tried target due (record {
      due = (allowed.due.0, and_some (edge net name) _ e is_edge (meets.0, meets.1 ∙ ap (λ z. z +ℤ e.weight) same));
      lower = below_of due _ _ allowed.lower (time_falls values event target value lower);
    })

-- the causes' values with their high ends are the same, so their greatest is
swap_most : (o : Option ℤ) (a b due : ℤ) → IfSome o (λ _. a ≡ b) → IfSome o (λ high. (a +ℤ high) ≤ℤ due) → IfSome o (λ high. (b +ℤ high) ≤ℤ due)
swap_most None a b due same most = tt
swap_most (Some high) a b due same most = subst (λ z. (z +ℤ high) ≤ℤ due) same most

swap_attained : (o : Option ℤ) (a b due : ℤ) → IfSome o (λ _. a ≡ b) → IsSomeAnd o (λ high. due ≡ (a +ℤ high)) → IsSomeAnd o (λ high. due ≡ (b +ℤ high))
swap_attained None a b due same attained = absurd attained
swap_attained (Some high) a b due same attained = subst (λ z. due ≡ (z +ℤ high)) same attained

latest_high_before : (before after : List ℤ) (causes : List Cause) (due : ℤ)
    → ((i : ℕ) (c : Cause) → slice_get causes i ≡ Some c → IfSome c.range.high (λ _. time_of after c.event ≡ time_of before c.event))
    → IsLatestHigh after causes due → IsLatestHigh before causes due
latest_high_before before after causes due same latest = record {
  most = λ i d within.
      let c = get_or causes i d in
      swap_most c.range.high (time_of after c.event) (time_of before c.event) due (same i c (slice_get-get_or causes i d within)) (latest.most i d within);
  attained =
      let (i, c, within, here, is) = latest.attained in
      let at_c : slice_get causes i ≡ Some c = slice_get-get_or causes i c within ∙ ap Some here in
      (i, c, within, here, swap_attained c.range.high (time_of after c.event) (time_of before c.event) due (same i c at_c) is);
}

-- a latest line whose causes are other events was allowed before the fall
latest_before : (net : Net) (values : List ℤ) (event : EventId) (value : ℤ) (number : ℕ) → value <ℤ time_of values event
    → StartsNone net event number → IsTried net values (ByLatest number) → IsTried net (set values event.0 value) (ByLatest number)
latest_before net values event value number lower none tried target due allowed =
    let (k, at_k, both) = some_and (slice_get net.constraints number) _ allowed.due in
    tried target due (record {
      due = and_some (slice_get net.constraints number) _ k at_k (both.0, latest_high_before values (set values event.0 value) k.causes due (same_at k at_k) both.1);
      lower = below_of due _ _ allowed.lower (time_falls values event target value lower);
    }) where
      same_high : (o : Option ℤ) (a b : ℤ) → ((high : ℤ) → o ≡ Some high → a ≡ b) → IfSome o (λ _. a ≡ b)
      same_high None a b same = tt
      same_high (Some high) a b same = same high refl

      same_at : (k : Constraint) → slice_get net.constraints number ≡ Some k → (i : ℕ) (c : Cause) → slice_get k.causes i ≡ Some c
          → IfSome c.range.high (λ _. time_of (set values event.0 value) c.event ≡ time_of values c.event)
      same_at k at_k i c at_c =
          same_high c.range.high (time_of (set values event.0 value) c.event) (time_of values c.event)
          (λ high is_high.
          other_time values event c.event value
          (none (record { constraint = number; cause = i; side = Upper }) (record { from = c.event; to = k.target; weight = high }) refl (rw (at_k, at_c, is_high) refl)))

-- a fall of an event leaves a constraint tried if no edge of the constraint starts at the event
tried_before : (net : Net) (values : List ℤ) (event : EventId) (value : ℤ) (number : ℕ) → value <ℤ time_of values event → StartsNone net event number
    → IsConstraintTried net values number → IsConstraintTried net (set values event.0 value) number
tried_before net values event value number lower none tried (ByEdge name) is =
    edge_before net values event value name lower (subst (StartsNone net event) (sym is) none) (tried (ByEdge name) is)
tried_before net values event value number lower none tried (ByLatest n) is =
    latest_before net values event value n lower (subst (StartsNone net event) (sym is) none) (tried (ByLatest n) is)

-- after a fall, and with the flags of the followers, a constraint without a flag allows no line
pub woken : (net : Net) (agenda : Agenda) (pending : List ℕ) (values : List ℤ) (event : EventId) (value : ℤ) → IsAgendaFor net agenda → value <ℤ time_of values event
    → ((k : ℕ) → IsPending agenda.pending k → IsPending pending k) → All (IsPending pending) (at_event agenda.followers event.0)
    → AreOthersTried net values agenda.pending → AreOthersTried net (set values event.0 value) pending
woken net agenda pending values event value made lower kept there tried number within not_pending =
    tried_before net values event value number lower
    (λ name e is_number is_edge same.
    not_pending
    (All-contains (IsPending pending) (at_event agenda.followers event.0) number there
    (listed name e is_number same (made.followers.edges name e is_edge))))
    (tried number within (λ p. not_pending (kept number p))) where
      listed : (name : EdgeName) (e : Edge) → name.constraint ≡ number → e.from.0 ≡ event.0 → Contains (at_event agenda.followers e.from.0) name.constraint
          → Contains (at_event agenda.followers event.0) number
      listed name e is_number same contains =
          subst (λ (n : ℕ). Contains (at_event agenda.followers event.0) n) is_number
          (subst (λ (i : ℕ). Contains (at_event agenda.followers i) name.constraint) same contains)

-- a constraint that was examined without result needs no flag
pub tried_without : (net : Net) (values : List ℤ) (before after : List ℕ) (number : ℕ) → AreOthersTried net values before → IsConstraintTried net values number
    → ((k : ℕ) → k ≢ number → IsPending before k → IsPending after k) → AreOthersTried net values after
tried_without net values before after number tried here others k within not_pending = elim (cases_eq k number) [
  | inl same ↦ subst (IsConstraintTried net values) (sym same) here
  | inr apart ↦ tried k within (λ p. not_pending (others k apart p))
]

-- the first line of the first constraint with a flag is the line of the turn
pub turn_line : (net : Net) (values : List ℤ) (pending : List ℕ) (number : ℕ) (line : FallLine) → AreOthersTried net values pending
    → ((k : ℕ) → k < number → IsPending pending k → ⊥) → number < length net.constraints → IsFirstOf net values number line → IsTurnLine net values line
turn_line net values pending number line tried none within first = record {
  least = λ k before.
      let less : k < number = subst (λ (n : ℕ). k < n) first.is before in
      tried k (omega arith) (none k less);
  first = subst (λ (n : ℕ). IsFirstOf net values n line) (sym first.is) first;
}

-- where all flags are there nothing has to be tried
pub begun_tried : (net : Net) (values : List ℤ) (agenda : Agenda) (pending : List ℕ) → IsAgendaFor net agenda → length pending ≡ length agenda.pending
    → ((number : ℕ) → number < 64 * length pending → IsPending pending number) → AreOthersTried net values pending
begun_tried net values agenda pending made count all number within not_pending =
    absurd (not_pending (all number (omega (arith, made.room))))

-- the same of an agenda that is known by its parts
pub woken_of : (net : Net) (agenda : Agenda) (followers : List (List ℕ)) (before after list : List ℕ) (values : List ℤ) (event : EventId) (value : ℤ)
    → record { followers = followers; pending = before } ≡ agenda → list ≡ at_event followers event.0 → IsAgendaFor net agenda → value <ℤ time_of values event
    → ((k : ℕ) → IsPending before k → IsPending after k) → All (IsPending after) list → AreOthersTried net values agenda.pending
    → AreOthersTried net (set values event.0 value) after
woken_of net agenda followers before after list values event value view is made lower kept there tried =
    woken net agenda after values event value made lower
    (λ k here. kept k (subst (λ (words : List ℕ). IsPending words k) (sym (ap (λ (a : Agenda). a.pending) view)) here))
    (subst (All (IsPending after)) (is ∙ ap (λ (a : Agenda). at_event a.followers event.0) view) there) tried
