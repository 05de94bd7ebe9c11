-- The always-edges, put into a matrix one after another.
use Rattle.std.proofs.Common.{◌≡◌, ◌+◌, ◌<◌, ◌⊎◌, inl, inr, ℕ, ℤ, pos, neg_ℤ, List, [], ◌∷◌, ◌++◌, length, get_or, set, replicate, Some, max, option_map, slice_get, ◌∙◌, sym, ap, subst, arith}
use Rattle.std.proofs.Math.ListN.{length-set}
use Rattle.std.proofs.lemmas.Bool.{cases_eq, cases_lt}
use Rattle.std.proofs.lemmas.Int.{ints}
use Rattle.std.proofs.lemmas.Option.{option_and_then_some, same_Some, slice_get_within}
use Rattle.std.proofs.lemmas.List.{get_or-set_other, get_or-set_same, get_or_append_left, get_or_past, get_or_push, length_push}
use Rattle.std.proofs.lemmas.Simd.{get_or-replicate, length-replicate}
use lib.Signed.{◌≤ℤ◌}
use Rattle.itv_base.specs.Range.{IsEnd}
use Rattle.itv_base.specs.declared.limits.TheConstants.{END_LIMIT}
use Rattle.itv_base.specs.declared.names.EdgeName.{EdgeName}
use Rattle.itv_base.specs.declared.names.Side.TheVariants.{Lower, Upper}
use Rattle.event_graph.specs.declared.edge.Edge.{Edge}
use Rattle.event_graph.specs.Network.{IsConstraint, IsNet, Net, cause_count_of, named_causes}
use Rattle.event_graph.proofs.EdgesMet.{All-found, cause_of}
use Rattle.event_graph.specs.Times.{separation}
use Rattle.event_graph.proofs.Causes.{cause_within}
use Rattle.minplus.specs.Rows.{IsEntry, IsSmall, entry_at}
use Rattle.minplus.specs.Matrix.{IsSquare, cells}
use Rattle.minplus.specs.Step.Entries.{BoundsAlways, Entries, HoldsEdges, IsEdgeHeld, IsPresent}
use Rattle.minplus.specs.Step.Paths.{AreSteps}
use Rattle.minplus.specs.Step.Edges.{BoundSeparations, AreEmptyRows, NoneRose, HoldsCause, HoldsEdge, IsAlwaysEdge, Lowers}
use Rattle.minplus.specs.declared.rows.TheConstants.{ABSENT}

pub falls_further : (old mid new : Entries) → NoneRose old mid → NoneRose mid new → NoneRose old new
falls_further old mid new first second from to =
    let one : mid from to ≤ℤ old from to = first from to in
    let two : new from to ≤ℤ mid from to = second from to in
    omega (arith, ints)

pub falls_not : (entries : Entries) → NoneRose entries entries
falls_not entries from to = omega (arith, ints)

-- if entries fall, an edge that was held is still held
pub held_by_less : (events : ℕ) (old new : Entries) (e : Edge) → NoneRose old new → IsEdgeHeld events old e → IsEdgeHeld events new e
held_by_less events old new e falls held =
    let fall : new e.from.0 e.to.0 ≤ℤ old e.from.0 e.to.0 = falls e.from.0 e.to.0 in
    let longer : old e.from.0 e.to.0 ≤ℤ e.weight = held.longer in
    record { from = held.from; to = held.to; small = held.small; longer = omega (arith, ints) }

-- entries that fell to the weight of an always-edge still bound the separations
bounds_lowered : (net : Net) (name : EdgeName) (e : Edge) (old new : Entries) → IsAlwaysEdge net name e → Lowers e old new → BoundsAlways net old → BoundsAlways net new
bounds_lowered net name e old new named lowers bounds times met from to there =
    elim (lowers.made from to) [
      | inl same ↦
          let is : new from to ≡ old from to = same in
          let was : IsPresent (old from to) = omega (arith, ints) in
          let most : separation times (record { 0 = from }) (record { 0 = to }) ≤ℤ old from to = bounds times met from to was in
          omega (arith, ints)
      | inr lowered ↦
          let is : new from to ≡ e.weight = lowered.2 in
          let meets : separation times e.from e.to ≤ℤ e.weight = met.each name e named.always named.is in
          let at_ends : new e.from.0 e.to.0 ≡ e.weight = rw (lowered.0, lowered.1) at is in
          rw (lowered.0, lowered.1) (omega (arith, ints))
    ]

-- a weight that is an end is a small number
end_small : (weight : ℤ) → IsEnd (Some weight) → IsSmall weight
end_small weight within =
    let low : neg_ℤ END_LIMIT ≤ℤ weight = within.0 in
    let high : weight ≤ℤ END_LIMIT = within.1 in
    record { low = omega (arith, ints); high = omega (arith, ints) }

steps_lowered : (net : Net) (name : EdgeName) (e : Edge) (old new : Entries) → IsAlwaysEdge net name e → Lowers e old new → AreSteps END_LIMIT old → AreSteps END_LIMIT new
steps_lowered net name e old new named lowers small from to there =
    elim (lowers.made from to) [
      | inl same ↦
          let is : new from to ≡ old from to = same in
          let was : IsPresent (old from to) = omega (arith, ints) in
          let P : ℤ → Type 0 = λ step. (neg_ℤ END_LIMIT ≤ℤ step) × (step ≤ℤ END_LIMIT) in
          subst P (sym same) (small from to was)
      | inr lowered ↦
          let P : ℤ → Type 0 = λ step. (neg_ℤ END_LIMIT ≤ℤ step) × (step ≤ℤ END_LIMIT) in
          subst P (sym lowered.2) named.within
    ]

-- the matrix after one more always-edge
pub bounds_after : (net : Net) (name : EdgeName) (e : Edge) (old new : List (List ℤ)) → IsAlwaysEdge net name e → IsSquare (length old) new → Lowers e (cells old) (cells new) → BoundSeparations net old → BoundSeparations net new
bounds_after net name e old new named square lowers bounds = record {
  square = subst (λ events. IsSquare events new) bounds.square.count square;
  held = λ from to. elim (lowers.made from to) [
    | inl same ↦ subst IsEntry (sym same) (bounds.held from to)
    | inr lowered ↦ subst IsEntry (sym lowered.2) (inr (end_small e.weight named.within))
  ];
  small = steps_lowered net name e (cells old) (cells new) named lowers bounds.small;
  diagonal = λ at below.
      let was : cells old at at ≤ℤ pos 0 = bounds.diagonal at below in
      let fall : cells new at at ≤ℤ cells old at at = lowers.falls at at in
      omega (arith, ints);
  bounds = bounds_lowered net name e (cells old) (cells new) named lowers bounds.bounds;
}

-- the always-edge is held
pub edge_held : (net : Net) (name : EdgeName) (e : Edge) (old new : Entries) → IsAlwaysEdge net name e → Lowers e old new → HoldsEdge net new name
edge_held net name e old new named lowers other always is =
    let same : e ≡ other = same_Some _ _ (sym named.is ∙ is) in
    subst (IsEdgeHeld net.events new) same (record { from = named.from; to = named.to; small = end_small e.weight named.within; longer = lowers.met })

-- ---- the edges of all constraints
-- the edges of the causes below a number are held
abbrev pub HoldsCausesBelow : Net → Entries → ℕ → ℕ → Type 0
HoldsCausesBelow net entries constraint count = (cause : ℕ) → cause < count → HoldsCause net entries constraint cause

-- the edges of the constraints below a number are held
abbrev pub HoldsConstraintsBelow : Net → Entries → ℕ → Type 0
HoldsConstraintsBelow net entries count = (constraint cause : ℕ) → constraint < count → HoldsCause net entries constraint cause

pub cause_by_less : (net : Net) (old new : Entries) (constraint cause : ℕ) → NoneRose old new → HoldsCause net old constraint cause → HoldsCause net new constraint cause
cause_by_less net old new constraint cause falls holds side e always is = held_by_less net.events old new e falls (holds side e always is)

-- the edges of both sides of a cause are held
pub both_sides : (net : Net) (mid new : Entries) (constraint cause : ℕ) → NoneRose mid new
    → HoldsEdge net mid (record { constraint = constraint; cause = cause; side = Lower }) → HoldsEdge net new (record { constraint = constraint; cause = cause; side = Upper })
    → HoldsCause net new constraint cause
both_sides net mid new constraint cause falls lower upper Lower e always is = held_by_less net.events mid new e falls (lower e always is)
both_sides net mid new constraint cause falls lower upper Upper e always is = upper e always is

pub causes_more : (net : Net) (old new : Entries) (constraint count : ℕ) → HoldsCausesBelow net old constraint count → NoneRose old new → HoldsCause net new constraint count
    → HoldsCausesBelow net new constraint (count + 1)
causes_more net old new constraint count before falls here cause below =
    elim (cases_eq cause count) [
      | inl same ↦ subst (HoldsCause net new constraint) (sym same) here
      | inr apart ↦ cause_by_less net old new constraint cause falls (before cause (omega arith))
    ]

-- the edges of all causes of a constraint are held
pub all_causes : (net : Net) (entries : Entries) (constraint count : ℕ) → IsNet net → option_map cause_count_of (slice_get net.constraints constraint) ≡ Some count
    → HoldsCausesBelow net entries constraint (max count 1) → (cause : ℕ) → HoldsCause net entries constraint cause
all_causes net entries constraint count is_net counted below cause side e always is =
    option_and_then_some _ _ _ is
    (λ c at _.
    let found = cause_of net (record { constraint = constraint; cause = cause; side = side }) c e at is in
    let allowed = All-found (IsConstraint net.events) net.constraints constraint c at is_net.constraints in
    let named : named_causes c.kind (length c.causes) ≡ count = same_Some _ _ (ap (option_map cause_count_of) (sym at) ∙ counted) in
    below cause (cause_within c.kind cause (length c.causes) count (slice_get_within _ _ _ found.1) allowed.count named) side e always is)

pub constraints_more : (net : Net) (old new : Entries) (count : ℕ) → HoldsConstraintsBelow net old count → NoneRose old new → ((cause : ℕ) → HoldsCause net new count cause)
    → HoldsConstraintsBelow net new (count + 1)
constraints_more net old new count before falls here constraint cause below =
    elim (cases_eq constraint count) [
      | inl same ↦ subst (λ k. HoldsCause net new k cause) (sym same) (here cause)
      | inr apart ↦ cause_by_less net old new constraint cause falls (before constraint cause (omega arith))
    ]

-- all always-edges are held
pub all_held : (net : Net) (entries : Entries) → HoldsConstraintsBelow net entries (length net.constraints) → HoldsEdges net entries
all_held net entries holds name e always is =
    option_and_then_some _ _ _ is
    (λ c at _. holds name.constraint name.cause (slice_get_within net.constraints name.constraint c at) name.side e always is)

-- ---- the rows of no edges
-- the rows of no edges with one row more
pub rows_more : (events count : ℕ) (rows new : List (List ℤ)) (row : List ℤ) → AreEmptyRows events count rows → row ≡ set (replicate events ABSENT) count (pos 0) → new ≡ rows ++ row ∷ []
    → AreEmptyRows events (count + 1) new
rows_more events count rows new row before is pushed = record {
  count_is = ap length pushed ∙ length_push rows row ∙ ap (λ n. n + 1) before.count_is;
  each = λ own below. elim (cases_eq own count) [
    | inl same ↦ ap (λ (list : List (List ℤ)). get_or list own []) pushed ∙ get_or_push rows row [] own (before.count_is ∙ sym same) ∙ is ∙ ap (λ n. set (replicate events ABSENT) n (pos 0)) (sym same)
    | inr apart ↦
        let count_is : length rows ≡ count = before.count_is in
        ap (λ (list : List (List ℤ)). get_or list own []) pushed ∙ get_or_append_left rows (row ∷ []) [] own (omega arith) ∙ before.each own (omega arith)
  ];
}

-- the entry of an event to itself, and to others
own_entry : (events own : ℕ) → own < events → entry_at (set (replicate events ABSENT) own (pos 0)) own ≡ pos 0
own_entry events own below = get_or-set_same (replicate events ABSENT) own (pos 0) ABSENT (let count : length (replicate events ABSENT) ≡ events = length-replicate events ABSENT in omega arith)

absent_place : (events place : ℕ) → entry_at (replicate events ABSENT) place ≡ ABSENT
absent_place events place =
    elim (cases_lt place events) [
      | inl within ↦ get_or-replicate events place ABSENT ABSENT within
      | inr past ↦ get_or_past (replicate events ABSENT) place ABSENT (let count : length (replicate events ABSENT) ≡ events = length-replicate events ABSENT in omega arith)
    ]

other_entry : (events own place : ℕ) → (place ≡ own → ⊥) → entry_at (set (replicate events ABSENT) own (pos 0)) place ≡ ABSENT
other_entry events own place apart = get_or-set_other (replicate events ABSENT) own place (pos 0) ABSENT apart ∙ absent_place events place

-- an entry of the rows of no edges: 0 from an event to itself, otherwise absent
empty_cell : (events : ℕ) (rows : List (List ℤ)) → AreEmptyRows events events rows → (from to : ℕ) → ((from ≡ to) × (cells rows from to ≡ pos 0)) ⊎ (cells rows from to ≡ ABSENT)
empty_cell events rows empty from to =
    elim (cases_lt from events) [
      | inr past ↦ let count : length rows ≡ events = empty.count_is in inr (ap (λ (row : List ℤ). entry_at row to) (get_or_past rows from [] (omega arith)))
      | inl within ↦
          let is : cells rows from to ≡ entry_at (set (replicate events ABSENT) from (pos 0)) to = ap (λ (row : List ℤ). entry_at row to) (empty.each from within) in
          elim (cases_eq to from) [
            | inl same ↦ inl (sym same, is ∙ ap (entry_at (set (replicate events ABSENT) from (pos 0))) same ∙ own_entry events from within)
            | inr apart ↦ inr (is ∙ other_entry events from to apart)
          ]
    ]

zero_small : IsSmall (pos 0)
zero_small = record { low = omega (arith, ints); high = omega (arith, ints) }

-- the rows of no edges bound the separations
pub empty_bounds : (net : Net) (rows : List (List ℤ)) → AreEmptyRows net.events net.events rows → BoundSeparations net rows
empty_bounds net rows empty = record {
  square = record {
    count = empty.count_is;
    each = λ from below. ap (λ (row : List ℤ). length row) (empty.each from below) ∙ length-set (replicate net.events ABSENT) from (pos 0) ∙ length-replicate net.events ABSENT;
  };
  held = λ from to. elim (cell from to) [
    | inl own ↦ subst IsEntry (sym own.1) (inr zero_small)
    | inr absent ↦ inl absent
  ];
  small = λ from to there. elim (cell from to) [
    | inl own ↦ let is : cells rows from to ≡ pos 0 = own.1 in (omega (arith, ints), omega (arith, ints))
    | inr absent ↦ let is : cells rows from to ≡ ABSENT = absent in absurd (omega (arith, ints))
  ];
  diagonal = λ at below. let is : cells rows at at ≡ pos 0 = ap (λ (row : List ℤ). entry_at row at) (empty.each at below) ∙ own_entry net.events at below in omega (arith, ints);
  bounds = λ times met from to there. elim (cell from to) [
    | inl own ↦
        let is : cells rows from to ≡ pos 0 = own.1 in
        let same : get_or times to (pos 0) ≡ get_or times from (pos 0) = ap (λ at. get_or times at (pos 0)) (sym own.0) in
        omega (arith, ints)
    | inr absent ↦ let is : cells rows from to ≡ ABSENT = absent in absurd (omega (arith, ints))
  ];
}
  where
    cell : (from to : ℕ) → ((from ≡ to) × (cells rows from to ≡ pos 0)) ⊎ (cells rows from to ≡ ABSENT)
    cell = empty_cell net.events rows empty
