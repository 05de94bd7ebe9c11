-- One more line at the end of a derivation.
use Rattle.std.proofs.Common.{◌≡◌, ◌+◌, ◌<◌, ◌≤◌, inl, inr, ℕ, zero, suc, ℤ, pos, neg_ℤ, ◌≤ℤ◌, ◌<ℤ◌, List, [], ◌∷◌, ◌++◌, All, length, get_or, set, replicate, sym, ap, ◌∙◌, refl, subst, arith}
use Rattle.std.proofs.Math.ListN.{length-set}
use Rattle.std.proofs.lemmas.Int.{ints}
use Rattle.itv_base.specs.declared.names.EventId.{EventId}
use Rattle.event_graph.specs.Network.{IsNet, Net}
use Rattle.event_graph.specs.Times.{time_of}
use Rattle.event_graph.proofs.Causes.{same_event}
use Rattle.falling.specs.declared.line.FallLine.{FallLine}
use Rattle.falling.specs.Cap.{IsNearValue, cap, cap_limit, far_line}
use Rattle.falling.specs.DerivationEnds.{IsSpent}
use Rattle.falling.specs.Step.DerivationEnds.{EndsDerivation, HasEnded, HasSettled}
use Rattle.falling.specs.Derivation.{IsLineAllowed, IsDerivation, IsEnded, IsFixedPoint, DerivationLeads, fallen, starting_values}
use Rattle.falling.proofs.Bounding.{length-starting, replicated, set_at}
use Rattle.falling.proofs.Closing.{start_source}
use Rattle.falling.proofs.Counting.{due_within, least_of, start_most}

-- a derivation of some lines that has not ended
pub record IsUnderWay (net : Net) (from : EventId) (lines : List FallLine) (values : List ℤ) (taken : ℕ) : Type 0 where
  pub derivation : IsDerivation net from lines values
  pub not_ended : IsEnded net from values → ⊥
  pub count : length values ≡ net.events
  pub most : All (λ (value : ℤ). value ≤ℤ pos (cap net)) values
  pub taken_lines : length lines ≡ taken

pub leads_more : (net : Net) (from : EventId) (values : List ℤ) (lines : List FallLine) (after : List ℤ) (line : FallLine) → DerivationLeads net from values lines after
    → (IsEnded net from after → ⊥) → IsLineAllowed net after line → DerivationLeads net from values (lines ++ line ∷ []) (fallen after line)
leads_more net from values [] after line leads goes_on allowed =
    let Led : List ℤ → Type 0 = λ v. DerivationLeads net from v (line ∷ []) (fallen after line) in
    subst Led (sym leads) (goes_on, allowed, refl)
leads_more net from values (first ∷ lines) after line leads goes_on allowed = (leads.0, leads.1, leads_more net from (fallen values first) lines after line leads.2 goes_on allowed)

pub length-more : (lines : List FallLine) (line : FallLine) → length (lines ++ line ∷ []) ≡ length lines + 1
length-more [] line = refl
length-more (first ∷ lines) line = grind (arith, length-more lines line)

-- a line that does not end a derivation keeps it from its end
pub not_ended_after : (net : Net) (from : EventId) (values : List ℤ) (line : FallLine) (lowest : ℤ) → lowest ≡ neg_ℤ (pos (far_line net)) → from.0 < length values
    → (IsEnded net from values → ⊥) → (EndsDerivation line from lowest → ⊥) → IsEnded net from (fallen values line) → ⊥
not_ended_after net from values line lowest is_lowest within goes_on not (inl low) =
    elim (set_at values line.event.0 from.0 line.value (pos 0) within) [
      | inl (e, here) ↦ not (inl (same_event line.event from (sym e), subst (λ z. z <ℤ pos 0) here low))
      | inr (other, here) ↦ goes_on (inl (subst (λ z. z <ℤ pos 0) here low))
    ]
not_ended_after net from values line lowest is_lowest within goes_on not (inr (i, value, there, here, low)) =
    let in_values : i < length values = omega (arith, length-set values line.event.0 line.value) in
    elim (set_at values line.event.0 i line.value value in_values) [
      | inl (e, at) ↦ not (inr (subst (λ z. line.value <ℤ z) (sym is_lowest) (subst (λ z. z <ℤ neg_ℤ (pos (far_line net))) (sym here ∙ at) low)))
      | inr (other, at) ↦ goes_on (inr (i, value, in_values, sym at ∙ here, low))
    ]

set_here : (xs : List ℤ) (i : ℕ) (x d : ℤ) → i < length xs → get_or (set xs i x) i d ≡ x
set_here [] i x d within = absurd (omega arith)
set_here (y ∷ xs) zero x d within = refl
set_here (y ∷ xs) (suc i) x d within = set_here xs i x d (omega arith)

-- a line that ends a derivation brings it to its end
pub ended_after : (net : Net) (from : EventId) (values : List ℤ) (line : FallLine) (lowest : ℤ) → lowest ≡ neg_ℤ (pos (far_line net)) → line.event.0 < length values
    → EndsDerivation line from lowest → IsEnded net from (fallen values line)
ended_after net from values line lowest is_lowest within (inl (same, low)) =
    let here : time_of (fallen values line) from ≡ line.value =
    subst (λ (e : EventId). time_of (fallen values line) e ≡ line.value) same (set_here values line.event.0 line.value (pos 0) within) in
    inl (subst (λ z. z <ℤ pos 0) (sym here) low)
ended_after net from values line lowest is_lowest within (inr low) =
    inr (
      line.event.0,
      line.value,
      omega (arith, length-set values line.event.0 line.value),
      set_here values line.event.0 line.value line.value within,
      subst (λ z. line.value <ℤ z) is_lowest low,
    )

near_of : (value : ℤ) (far capped : ℕ) → far ≤ capped → capped ≤ cap_limit → neg_ℤ (pos far) ≤ℤ value → value ≤ℤ pos capped → IsNearValue value
near_of value far capped le small least most = (omega (arith, ints), omega (arith, ints))

-- values that have not ended a derivation are near
pub near_values : (net : Net) (from : EventId) (values : List ℤ) → cap net ≤ cap_limit → (IsEnded net from values → ⊥) → All (λ (value : ℤ). value ≤ℤ pos (cap net)) values
    → All IsNearValue values
near_values net from values small goes_on most = λ i d within.
    near_of (get_or values i d) (far_line net) (cap net) (far_le net) small (least_of net from values i d goes_on within) (most i d within) where
      far_le : (net : Net) → far_line net ≤ cap net
      far_le net = grind arith

-- values that fall stay within the cap
pub fallen_most : (net : Net) (values : List ℤ) (line : FallLine) → All (λ (value : ℤ). value ≤ℤ pos (cap net)) values → line.event.0 < length values
    → line.value <ℤ time_of values line.event → All (λ (value : ℤ). value ≤ℤ pos (cap net)) (fallen values line)
fallen_most net values line most in_line lower = λ i d within.
    elim (set_at values line.event.0 i line.value d (omega (arith, length-set values line.event.0 line.value))) [
      | inl (e, here) ↦ rw here (le_of line.value (time_of values line.event) (pos (cap net)) lower (most line.event.0 (pos 0) in_line))
      | inr (other, here) ↦ rw here (most i d (omega (arith, length-set values line.event.0 line.value)))
    ] where
      le_of : (a b c : ℤ) → a <ℤ b → b ≤ℤ c → a ≤ℤ c
      le_of a b c p q = omega (arith, ints)

start_not_ended : (net : Net) (from : EventId) → from.0 < net.events → IsEnded net from (starting_values net from) → ⊥
start_not_ended net from within (inl low) = below (time_of (starting_values net from) from) (start_source net from within) low where
  below : (z : ℤ) → z ≡ pos 0 → z <ℤ pos 0 → ⊥
  below z e low = omega (arith, ints)
start_not_ended net from within (inr (i, value, there, here, low)) =
    elim (set_at (replicate net.events (pos (cap net))) from.0 i (pos 0) value (omega (arith, length-set (replicate net.events (pos (cap net))) from.0 (pos 0)))) [
      | inl (e, at) ↦ below value 0 (far_line net) (sym here ∙ at) low
      | inr (other, at) ↦
          below value (cap net) (far_line net) (sym here ∙ (at ∙ replicated net.events i (pos (cap net)) value (omega (arith, length-starting net from)))) low
    ] where
      below : (z : ℤ) (n far : ℕ) → z ≡ pos n → z <ℤ neg_ℤ (pos far) → ⊥
      below z n far e low = omega (arith, ints)

lead_most : (net : Net) (from : EventId) (values : List ℤ) (lines : List FallLine) (after : List ℤ) → IsNet net → length values ≡ net.events
    → All (λ (value : ℤ). value ≤ℤ pos (cap net)) values → DerivationLeads net from values lines after → All (λ (value : ℤ). value ≤ℤ pos (cap net)) after
lead_most net from values [] after is_net count most leads = subst (All (λ (value : ℤ). value ≤ℤ pos (cap net))) leads most
lead_most net from values (line ∷ lines) after is_net count most leads =
    let within : line.event.0 < net.events = due_within net values line.event line.value line.reason is_net leads.1.due in
    lead_most net from (fallen values line) lines after is_net (length-set values line.event.0 line.value ∙ count)
    (fallen_most net values line most (omega (arith, within, count)) leads.1.lower) leads.2

-- the values of a derivation are within the cap
pub derived_most : (net : Net) (from : EventId) (lines : List FallLine) (values : List ℤ) → IsNet net → IsDerivation net from lines values
    → All (λ (value : ℤ). value ≤ℤ pos (cap net)) values
derived_most net from lines values is_net derivation =
    lead_most net from (starting_values net from) lines values is_net (length-starting net from) (start_most net from) derivation

-- a derivation of no lines
pub under_way_first : (net : Net) (from : EventId) (values : List ℤ) → from.0 < net.events → values ≡ starting_values net from → IsUnderWay net from [] values 0
under_way_first net from values within is = record {
  derivation = sym is;
  not_ended = subst (λ v. IsEnded net from v → ⊥) (sym is) (start_not_ended net from within);
  count = ap length is ∙ length-starting net from;
  most = subst (All (λ (value : ℤ). value ≤ℤ pos (cap net))) (sym is) (start_most net from);
  taken_lines = refl;
}

-- a derivation of one more line
pub under_way_next : (net : Net) (from : EventId) (lines : List FallLine) (values : List ℤ) (taken : ℕ) (line : FallLine) (lowest : ℤ) → from.0 < net.events
    → line.event.0 < net.events → lowest ≡ neg_ℤ (pos (far_line net)) → IsUnderWay net from lines values taken → IsLineAllowed net values line → (EndsDerivation line from lowest → ⊥)
    → IsUnderWay net from (lines ++ line ∷ []) (fallen values line) (taken + 1)
under_way_next net from lines values taken line lowest in_from in_line is_lowest way allowed not = record {
  derivation = leads_more net from (starting_values net from) lines values line way.derivation way.not_ended allowed;
  not_ended = not_ended_after net from values line lowest is_lowest (omega (arith, way.count)) way.not_ended not;
  count = length-set values line.event.0 line.value ∙ way.count;
  most = fallen_most net values line way.most (omega (arith, way.count)) allowed.lower;
  taken_lines = length-more lines line ∙ ap (λ n. n + 1) way.taken_lines;
}

-- the last line, which ends a derivation
pub has_ended : (net : Net) (from : EventId) (lines : List FallLine) (values : List ℤ) (taken turns : ℕ) (line : FallLine) (lowest : ℤ) → line.event.0 < net.events
    → lowest ≡ neg_ℤ (pos (far_line net)) → IsUnderWay net from lines values taken → IsLineAllowed net values line → EndsDerivation line from lowest → taken < turns
    → HasEnded net from turns (lines ++ line ∷ []) (fallen values line)
has_ended net from lines values taken turns line lowest in_line is_lowest way allowed ends less = record {
  derivation = leads_more net from (starting_values net from) lines values line way.derivation way.not_ended allowed;
  ended = ended_after net from values line lowest is_lowest (omega (arith, way.count)) ends;
  count = omega (arith, length-more lines line, way.taken_lines);
}

pub has_settled : (net : Net) (from : EventId) (lines : List FallLine) (values : List ℤ) (taken turns : ℕ) → IsUnderWay net from lines values taken → IsFixedPoint net values → taken ≤ turns
    → HasSettled net from turns lines values
has_settled net from lines values taken turns way settled le = record {
  derivation = way.derivation;
  not_ended = way.not_ended;
  settled = settled;
  count = omega (arith, way.taken_lines);
}

pub is_spent : (net : Net) (from : EventId) (lines : List FallLine) (values : List ℤ) (taken turns : ℕ) (line : FallLine) → IsUnderWay net from lines values taken
    → IsLineAllowed net values line → taken ≡ turns → IsSpent net from turns lines values
is_spent net from lines values taken turns line way allowed same = record {
  derivation = way.derivation;
  not_ended = way.not_ended;
  count = way.taken_lines ∙ same;
  more = (line, allowed);
}
