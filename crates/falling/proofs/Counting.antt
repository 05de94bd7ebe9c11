-- How many lines a derivation can have.
use Rattle.std.proofs.Common.{◌≡◌, ◌+◌, ◌*◌, ◌<◌, ◌≤◌, inl, inr, ℕ, zero, suc, ℤ, pos, neg_ℤ, ◌+ℤ◌, ◌≤ℤ◌, ◌<ℤ◌, List, [], ◌∷◌, All, length, get_or, set, replicate, slice_get, ap, ◌∙◌, subst, arith}
use Rattle.std.proofs.Math.ListN.{length-set}
use Rattle.std.proofs.lemmas.List.{get_or_default}
use Rattle.std.proofs.lemmas.Int.{ints}
use Rattle.itv_base.specs.declared.names.EventId.{EventId}
use Rattle.itv_base.proofs.Options.{some_and}
use Rattle.event_graph.specs.Edges.{edge}
use Rattle.event_graph.specs.Network.{IsConstraint, IsNet, Net}
use Rattle.event_graph.specs.Times.{time_of}
use Rattle.event_graph.proofs.EdgesMet.{All-found}
use Rattle.falling.specs.declared.line.FallLine.{FallLine}
use Rattle.falling.specs.declared.line.Reason.{Reason}
use Rattle.falling.specs.declared.line.Reason.TheVariants.{ByEdge, ByLatest}
use Rattle.falling.specs.Cap.{cap, enough_turns, far_line}
use Rattle.falling.specs.Derivation.{IsLineAllowed, IsDerivation, IsDue, IsEnded, DerivationLeads, fallen, starting_values}
use Rattle.falling.specs.Laws.{NotEndedIsShort}
use Rattle.falling.proofs.Between.{edge_between}
use Rattle.falling.proofs.Bounding.{length-starting, replicated, set_at}
use Rattle.falling.proofs.Near.{below_or_not}
use Rattle.falling.proofs.Removed.{IsNaturalPart, natural_part, natural_part_is}

-- how far a value is above the first value that ends a derivation
abbrev pub height : ℕ → ℤ → ℕ
height far value = natural_part (value +ℤ pos (far + 1))

-- the sum of the heights
abbrev pub heights : ℕ → List ℤ → ℕ
heights far [] = 0
heights far (value ∷ values) = height far value + heights far values

height_is : (far : ℕ) (value : ℤ) → IsNaturalPart (value +ℤ pos (far + 1)) (height far value)
height_is far value = natural_part_is (value +ℤ pos (far + 1))

falls_of : (far : ℕ) (before after : ℤ) (high low : ℕ) → IsNaturalPart (before +ℤ pos (far + 1)) high → IsNaturalPart (after +ℤ pos (far + 1)) low
    → neg_ℤ (pos far) ≤ℤ before → after <ℤ before → low < high
falls_of far before after high low is_high is_low least less =
    let at_high : (before +ℤ pos (far + 1)) ≡ pos high = is_high.up (omega (arith, ints)) in
    elim (below_or_not (after +ℤ pos (far + 1)) (pos 0)) [
      | inl under ↦ let none : low ≡ 0 = is_low.down (omega (arith, ints)) in omega (arith, ints)
      | inr up ↦ let at_low : (after +ℤ pos (far + 1)) ≡ pos low = is_low.up up in omega (arith, ints)
    ]

height_falls : (far : ℕ) (before after : ℤ) → neg_ℤ (pos far) ≤ℤ before → after <ℤ before → height far after < height far before
height_falls far before after least less = falls_of far before after _ _ (height_is far before) (height_is far after) least less

most_of : (far capped : ℕ) (value : ℤ) (h : ℕ) → IsNaturalPart (value +ℤ pos (far + 1)) h → value ≤ℤ pos capped → h ≤ capped + (far + 1)
most_of far capped value h is most = elim (below_or_not (value +ℤ pos (far + 1)) (pos 0)) [
  | inl under ↦ let none : h ≡ 0 = is.down (omega (arith, ints)) in omega arith
  | inr up ↦ let at_h : (value +ℤ pos (far + 1)) ≡ pos h = is.up up in omega (arith, ints)
]

height_most : (far capped : ℕ) (value : ℤ) → value ≤ℤ pos capped → height far value ≤ capped + (far + 1)
height_most far capped value most = most_of far capped value _ (height_is far value) most

pub start_most : (net : Net) (from : EventId) → All (λ (value : ℤ). value ≤ℤ pos (cap net)) (starting_values net from)
start_most net from = λ i d within.
    elim (set_at (replicate net.events (pos (cap net))) from.0 i (pos 0) d (omega (arith, length-set (replicate net.events (pos (cap net))) from.0 (pos 0)))) [
      | inl (e, here) ↦ rw here (omega (arith, ints))
      | inr (not, here) ↦
          rw (here, replicated net.events i (pos (cap net)) d (omega (arith, length-starting net from))) (omega (arith, ints))
    ]

heights_most : (far capped : ℕ) (values : List ℤ) → ((i : ℕ) → i < length values → get_or values i (pos 0) ≤ℤ pos capped) → heights far values ≤ length values * (capped + (far + 1))
heights_most far capped [] most = omega arith
heights_most far capped (value ∷ values) most =
    let first : height far value ≤ capped + (far + 1) = height_most far capped value (most 0 (omega arith)) in
    let rest : heights far values ≤ length values * (capped + (far + 1)) = heights_most far capped values (λ i within. most (suc i) (omega arith)) in
    let more : length (value ∷ values) * (capped + (far + 1)) ≡ (capped + (far + 1)) + length values * (capped + (far + 1)) = grind arith in
    omega arith

enough_is : (net : Net) → net.events * (cap net + (far_line net + 1)) ≡ enough_turns net
enough_is net = grind arith

start_heights : (net : Net) (from : EventId) → heights (far_line net) (starting_values net from) ≤ enough_turns net
start_heights net from =
    let most : heights (far_line net) (starting_values net from) ≤ length (starting_values net from) * (cap net + (far_line net + 1)) =
    heights_most (far_line net) (cap net) (starting_values net from) (λ i within. start_most net from i (pos 0) within) in
    subst (λ k. heights (far_line net) (starting_values net from) ≤ k) (ap (λ k. k * (cap net + (far_line net + 1))) (length-starting net from) ∙ enough_is net) most

-- a value that has not ended a derivation
pub least_of : (net : Net) (from : EventId) (values : List ℤ) (i : ℕ) (d : ℤ) → (IsEnded net from values → ⊥) → i < length values
    → neg_ℤ (pos (far_line net)) ≤ℤ get_or values i d
least_of net from values i d goes_on within = elim (below_or_not (get_or values i d) (neg_ℤ (pos (far_line net)))) [
  | inl low ↦ absurd (goes_on (inr (i, get_or values i d, within, get_or_default values i (get_or values i d) d within, low)))
  | inr high ↦ high
]

-- a line that lowers one value lowers the sum
set_lowers : (far : ℕ) (values : List ℤ) (i : ℕ) (value : ℤ) → i < length values → height far value < height far (get_or values i (pos 0))
    → heights far (set values i value) < heights far values
set_lowers far [] i value within less = absurd (omega arith)
set_lowers far (v ∷ values) zero value within less = omega (arith, less)
set_lowers far (v ∷ values) (suc i) value within less = omega (arith, set_lowers far values i value (omega arith) less)

line_lowers : (net : Net) (from : EventId) (values : List ℤ) (line : FallLine) → line.event.0 < length values → (IsEnded net from values → ⊥) → IsLineAllowed net values line
    → heights (far_line net) (fallen values line) < heights (far_line net) values
line_lowers net from values line within goes_on allowed =
    set_lowers (far_line net) values line.event.0 line.value within
    (height_falls (far_line net) (time_of values line.event) line.value (least_of net from values line.event.0 (pos 0) goes_on within) allowed.lower)

-- the event of a line that is allowed is an event of the network
pub due_within : (net : Net) (values : List ℤ) (event : EventId) (value : ℤ) (reason : Reason) → IsNet net → IsDue net values event value reason → event.0 < net.events
due_within net values event value (ByEdge name) is_net due =
    let (e, is_edge, (is_to, is_value)) = some_and (edge net name) _ due.1 in
    subst (λ (x : EventId). x.0 < net.events) is_to (edge_between net name e is_net is_edge).to
due_within net values event value (ByLatest number) is_net due =
    let (k, at_k, (of_event, latest)) = some_and (slice_get net.constraints number) _ due in
    let is : IsConstraint net.events k = All-found (IsConstraint net.events) net.constraints number k at_k is_net.constraints in
    subst (λ (x : EventId). x.0 < net.events) of_event.target is.target

-- the lines and what is left of the sum
pub lead_lowers : (net : Net) (from : EventId) (values : List ℤ) (lines : List FallLine) (after : List ℤ) → IsNet net → length values ≡ net.events
    → DerivationLeads net from values lines after → (length lines + heights (far_line net) after ≤ heights (far_line net) values) × (length after ≡ net.events)
lead_lowers net from values [] after is_net count leads = rw (← leads) ((omega arith), count)
lead_lowers net from values (line ∷ lines) after is_net count leads =
    let within : line.event.0 < net.events = due_within net values line.event line.value line.reason is_net leads.1.due in
    let less : heights (far_line net) (fallen values line) < heights (far_line net) values = line_lowers net from values line (omega arith) leads.0 leads.1 in
    let rest = lead_lowers net from (fallen values line) lines after is_net (length-set values line.event.0 line.value ∙ count) leads.2 in
    (omega (arith, rest.0), rest.1)

pub length-derived : (net : Net) (from : EventId) (lines : List FallLine) (values : List ℤ) → IsNet net → IsDerivation net from lines values → length values ≡ net.events
length-derived net from lines values is_net derivation = (lead_lowers net from (starting_values net from) lines values is_net (length-starting net from) derivation).1

at_in : (far : ℕ) (values : List ℤ) (i : ℕ) → i < length values → height far (get_or values i (pos 0)) ≤ heights far values
at_in far [] i within = absurd (omega arith)
at_in far (v ∷ values) zero within = omega arith
at_in far (v ∷ values) (suc i) within = omega (arith, at_in far values i (omega arith))

height_some : (far : ℕ) (value : ℤ) (h : ℕ) → IsNaturalPart (value +ℤ pos (far + 1)) h → neg_ℤ (pos far) ≤ℤ value → 0 < h
height_some far value h is least = let at_h : (value +ℤ pos (far + 1)) ≡ pos h = is.up (omega (arith, ints)) in omega (arith, ints)

source_height : (net : Net) (from : EventId) (values : List ℤ) → (IsEnded net from values → ⊥) → from.0 < length values → 0 < heights (far_line net) values
source_height net from values goes_on within =
    let some : 0 < height (far_line net) (time_of values from) =
    height_some (far_line net) (time_of values from) _ (height_is (far_line net) (time_of values from)) (least_of net from values from.0 (pos 0) goes_on within) in
    omega (arith, some, at_in (far_line net) values from.0 within)

pub not_ended_is_short : NotEndedIsShort
not_ended_is_short net from lines values is_net in_from derivation goes_on =
    let led = lead_lowers net from (starting_values net from) lines values is_net (length-starting net from) derivation in
    let some : 0 < heights (far_line net) values = source_height net from values goes_on (omega (arith, led.1)) in
    omega (arith, led.0, some, start_heights net from)
