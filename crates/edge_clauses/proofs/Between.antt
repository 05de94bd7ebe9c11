-- Satisfying times between minus the cap and the cap.
use Rattle.std.proofs.Common.{◌≡◌, ◌+◌, ◌*◌, ◌<◌, ◌≤◌, ◌⊎◌, inl, inr, ℕ, ℤ, pos, neg_ℤ, ◌+ℤ◌, ◌-ℤ◌, ◌≤ℤ◌, ◌<ℤ◌, List, All, length, get_or, sym, ap, ◌∙◌, subst, arith}
use Rattle.std.proofs.lemmas.Int.{ints}
use Rattle.std.proofs.lemmas.List.{get_or_default, length-map}
use Rattle.event_graph.specs.Network.{IsNet, Net}
use Rattle.event_graph.specs.Satisfying.{Satisfies}
use Rattle.event_graph.specs.Times.{separation, time_of}
use Rattle.falling.specs.Cap.{cap, far_line, widest_end}
use Rattle.falling.specs.Gaps.{IsWithinCap}
use Rattle.falling.specs.Kinds.{negated, negated_times}
use Rattle.falling.proofs.Near.{below_or_not}
use Rattle.falling.proofs.NegatedNets.{widest-negated, net_negated}
use Rattle.falling.proofs.Negating.{get_or-negated, length-mapped, satisfies_from, satisfies_turns}
use Rattle.falling.proofs.Removed.{narrowed}
use Rattle.falling.proofs.Within.{IsNarrowed, at_event, cap_is, narrowed_by, narrowed_is, room_within, satisfies_narrowed, separation_within_cap, times_near_source}
use Rattle.edge_clauses.specs.Lines.{Goal}

-- times that a proof of the goal refutes
pub record IsBetween (net : Net) (goal : Goal) (times : List ℤ) : Type 0 where
  pub within : IsWithinCap net goal.from times
  pub least : All (λ (time : ℤ). neg_ℤ (pos (cap net)) ≤ℤ time) times
  pub above : goal.claim <ℤ time_of times goal.to

-- times within the cap, narrowed where they are below minus the far line
abbrev pulled : Net → List ℤ → List ℤ
pulled net times = negated_times (narrowed_by (widest_end net) (negated_times times) (pos (far_line net)) (pos 0))

length-pulled : (net : Net) (times : List ℤ) → length (pulled net times) ≡ length times
length-pulled net times = length-mapped neg_ℤ _ ∙ (length-map (negated_times times) _ ∙ length-mapped neg_ℤ times)

-- a narrowed time: it stays, or it was below minus the far line and is now at most that line and not far below it
abbrev IsPulled : ℕ → ℕ → ℤ → ℤ → Type 0
IsPulled far room time other = ((other ≡ time) × (neg_ℤ (pos far) ≤ℤ time)) ⊎ ((time <ℤ neg_ℤ (pos far)) × (other ≤ℤ neg_ℤ (pos far)) × (neg_ℤ (pos (far + room)) ≤ℤ other))

pulled_of : (far room : ℕ) (time r : ℤ) → IsNarrowed room (pos far) (neg_ℤ time) r → IsPulled far room time (neg_ℤ (r -ℤ pos 0))
pulled_of far room time r narrow = elim (below_or_not (pos far) (neg_ℤ time)) [
  | inl beyond ↦
      let least : pos far ≤ℤ r = narrow.least (omega (arith, ints)) in
      let most : r ≤ℤ pos (far + room) = narrow_most far room r (narrow.most (omega (arith, ints))) in
      inr (omega (arith, ints), omega (arith, ints), omega (arith, ints))
  | inr near ↦
      let same : r ≡ neg_ℤ time = narrow.stays near in
      inl (omega (arith, ints), omega (arith, ints))
] where
  narrow_most : (far room : ℕ) (r : ℤ) → r ≤ℤ (pos far +ℤ pos room) → r ≤ℤ pos (far + room)
  narrow_most far room r most = omega (arith, ints)

pulled_at : (net : Net) (times : List ℤ) (i : ℕ) → length times ≡ net.events → i < length times
    → IsPulled (far_line net) (net.events * widest_end net) (get_or times i (pos 0)) (get_or (pulled net times) i (pos 0))
pulled_at net times i count within =
    let turned : length (negated_times times) ≡ length times = length-mapped neg_ℤ times in
    let at_turned : get_or (negated_times times) i (pos 0) ≡ neg_ℤ (get_or times i (pos 0)) = get_or-negated times i in
    let narrow : IsNarrowed (length (negated_times times) * widest_end net) (pos (far_line net)) (get_or (negated_times times) i (pos 0))
    (narrowed (widest_end net) (negated_times times) (pos (far_line net)) (get_or (negated_times times) i (pos 0)))
    = narrowed_is (widest_end net) (negated_times times) (pos (far_line net)) (get_or (negated_times times) i (pos 0)) in
    let at : get_or (pulled net times) i (pos 0) ≡ neg_ℤ (narrowed (widest_end net) (negated_times times) (pos (far_line net)) (get_or (negated_times times) i (pos 0)) -ℤ pos 0)
    = get_or-negated (narrowed_by (widest_end net) (negated_times times) (pos (far_line net)) (pos 0)) i
    ∙ ap neg_ℤ (at_event (widest_end net) (negated_times times) (pos (far_line net)) (pos 0) i (pos 0) (omega arith)) in
    rw at (moved (far_line net) (net.events * widest_end net) (length (negated_times times) * widest_end net) (get_or times i (pos 0)) (get_or (negated_times times) i (pos 0)) _
    (ap (λ n. n * widest_end net) (turned ∙ count)) at_turned narrow) where
      moved : (far room other_room : ℕ) (time turned r : ℤ) → other_room ≡ room → turned ≡ neg_ℤ time → IsNarrowed other_room (pos far) turned r → IsPulled far room time (neg_ℤ (r -ℤ pos 0))
      moved far room other_room time turned r same is narrow =
          pulled_of far room time r (subst (λ t. IsNarrowed room (pos far) t r) is (subst (λ n. IsNarrowed n (pos far) turned r) same narrow))

satisfies_pulled : (net : Net) (times : List ℤ) → IsNet net → Satisfies times net → Satisfies (pulled net times) net
satisfies_pulled net times is_net h =
    satisfies_from net (narrowed_by (widest_end net) (negated_times times) (pos (far_line net)) (pos 0))
    (subst (λ w. Satisfies (narrowed_by w (negated_times times) (pos (far_line net)) (pos 0)) (negated net)) (widest-negated net)
    (satisfies_narrowed (negated net) (negated_times times) (pos (far_line net)) (pos 0) (net_negated net is_net) (satisfies_turns net times h)))

pulled_most : (far room capped : ℕ) (time other : ℤ) → capped ≡ far + far → IsPulled far room time other → time ≤ℤ pos capped → other ≤ℤ pos capped
pulled_most far room capped time other is (inl (same, near)) most = omega (arith, ints)
pulled_most far room capped time other is (inr (low, below, least)) most = omega (arith, ints)

pulled_least : (far room capped : ℕ) (time other : ℤ) → capped ≡ far + far → room ≤ far → IsPulled far room time other → neg_ℤ (pos capped) ≤ℤ other
pulled_least far room capped time other is less (inl (same, near)) = omega (arith, ints)
pulled_least far room capped time other is less (inr (low, below, least)) = omega (arith, ints)

pulled_same : (far room : ℕ) (time other : ℤ) → IsPulled far room time other → neg_ℤ (pos far) ≤ℤ time → other ≡ time
pulled_same far room time other (inl (same, near)) least = same
pulled_same far room time other (inr (low, below, least_other)) least = absurd (omega (arith, ints))

-- within the cap on both sides
pulled_within : (net : Net) (goal : Goal) (times : List ℤ) → IsNet net → goal.from.0 < net.events → goal.to.0 < net.events → neg_ℤ (pos (far_line net)) ≤ℤ goal.claim
    → IsWithinCap net goal.from times → goal.claim <ℤ time_of times goal.to → IsBetween net goal (pulled net times)
pulled_within net goal times is_net in_from in_to near within above =
    let count : length times ≡ net.events = within.satisfies.count in
    let same_length : length (pulled net times) ≡ length times = length-pulled net times in
    record {
      within = record {
        satisfies = satisfies_pulled net times is_net within.satisfies;
        source = pulled_same (far_line net) (net.events * widest_end net) (time_of times goal.from) (time_of (pulled net times) goal.from)
            (pulled_at net times goal.from.0 count (omega arith)) (at_zero (far_line net) (time_of times goal.from) within.source) ∙ within.source;
        most = λ i d there. rw (get_or_default (pulled net times) i d (pos 0) there)
            (pulled_most (far_line net) (net.events * widest_end net) (cap net) (get_or times i (pos 0)) (get_or (pulled net times) i (pos 0)) (cap_is net)
            (pulled_at net times i count (omega arith)) (within.most i (pos 0) (omega arith)));
      };
      least = λ i d there. rw (get_or_default (pulled net times) i d (pos 0) there)
          (pulled_least (far_line net) (net.events * widest_end net) (cap net) (get_or times i (pos 0)) (get_or (pulled net times) i (pos 0)) (cap_is net)
          (room_within net.events (widest_end net)) (pulled_at net times i count (omega arith)));
      above = subst (λ z. goal.claim <ℤ z) (sym (pulled_same (far_line net) (net.events * widest_end net) (time_of times goal.to) (time_of (pulled net times) goal.to)
          (pulled_at net times goal.to.0 count (omega arith)) (later (neg_ℤ (pos (far_line net))) goal.claim (time_of times goal.to) near above))) above;
    } where
      at_zero : (far : ℕ) (time : ℤ) → time ≡ pos 0 → neg_ℤ (pos far) ≤ℤ time
      at_zero far time is = omega (arith, ints)

      later : (a b c : ℤ) → a ≤ℤ b → b <ℤ c → a ≤ℤ c
      later a b c p q = omega (arith, ints)

-- where some times satisfy with a separation above a claim that is not far off, some do so within the cap on both sides
between_of : (net : Net) (goal : Goal) (times : List ℤ) → IsNet net → goal.from.0 < net.events → goal.to.0 < net.events → neg_ℤ (pos (far_line net)) ≤ℤ goal.claim
    → goal.claim <ℤ pos (far_line net) → Satisfies times net → goal.claim <ℤ separation times goal.from goal.to → (others : List ℤ) × IsBetween net goal others
between_of net goal times is_net in_from in_to near below h above =
    let (others, within, either) = separation_within_cap net goal.from goal.to times is_net in_from in_to h in (
      pulled net others,
      pulled_within net goal others is_net in_from in_to near within
          (beyond goal.claim (pos (far_line net)) (time_of others goal.from) (time_of others goal.to) (separation times goal.from goal.to) within.source below above either),
    ) where
      beyond : (claim far source time sep : ℤ) → source ≡ pos 0 → claim <ℤ far → claim <ℤ sep → ((time -ℤ source) ≡ sep) ⊎ (far ≤ℤ (time -ℤ source)) → claim <ℤ time
      beyond claim far source time sep at_zero below above (inl same) = omega (arith, ints)
      beyond claim far source time sep at_zero below above (inr far_off) = omega (arith, ints)

-- where some times satisfy, and the claim is below minus the far line
pub between_near : (net : Net) (goal : Goal) (times : List ℤ) → IsNet net → goal.from.0 < net.events → goal.to.0 < net.events → goal.claim <ℤ neg_ℤ (pos (far_line net))
    → Satisfies times net → (others : List ℤ) × IsBetween net goal others
between_near net goal times is_net in_from in_to low h =
    let (others, within, near) = times_near_source net goal.from times is_net in_from h in
    let count : length others ≡ net.events = within.satisfies.count in (
      others,
      record {
        within = within;
        least = λ i d there. lower (far_line net) (cap net) (get_or others i d) (cap_is net) (near i d there);
        above = above_of goal.claim (neg_ℤ (pos (far_line net))) (time_of others goal.to) low (near goal.to.0 (pos 0) (omega arith));
      },
    ) where
      lower : (far capped : ℕ) (time : ℤ) → capped ≡ far + far → neg_ℤ (pos far) ≤ℤ time → neg_ℤ (pos capped) ≤ℤ time
      lower far capped time is least = omega (arith, ints)

      above_of : (a b c : ℤ) → a <ℤ b → b ≤ℤ c → a <ℤ c
      above_of a b c p q = omega (arith, ints)

-- where some times satisfy with a separation above a claim below the far line, some do so between minus the cap and the cap
pub between : (net : Net) (goal : Goal) (times : List ℤ) → IsNet net → goal.from.0 < net.events → goal.to.0 < net.events → goal.claim <ℤ pos (far_line net)
    → Satisfies times net → goal.claim <ℤ separation times goal.from goal.to → (others : List ℤ) × IsBetween net goal others
between net goal times is_net in_from in_to below h above = elim (below_or_not goal.claim (neg_ℤ (pos (far_line net)))) [
  | inl low ↦ between_near net goal times is_net in_from in_to low h
  | inr near ↦ between_of net goal times is_net in_from in_to near below h above
]
