-- Narrowed times of satisfying times satisfy, and a separation past an end stays past it.
use Rattle.std.proofs.Common.{◌≡◌, ◌≤◌, inl, inr, ℕ, max, suc, ℤ, pos, negsuc, neg_ℤ, ◌-ℤ◌, ◌≤ℤ◌, ◌<ℤ◌, List, [], ◌∷◌, length, Option, Some, None, ◌∙◌, refl, arith}
use Rattle.std.proofs.lemmas.Int.{ints}
use Rattle.std.specs.List.{slice_get}
use Rattle.std.specs.Option.{option_and_then}
use Rattle.itv_base.specs.Range.{IsEnd}
use Rattle.event_graph.specs.declared.cause.Cause.{Cause}
use Rattle.event_graph.specs.Network.{AreEnds, Constraint, IsNet, Net}
use Rattle.event_graph.specs.Times.{time_of}
use Rattle.falling.specs.Cap.{end_size, widest_end, widest_of, widest_of_causes}
use Rattle.falling.proofs.Near.{IsKept, KeepsNear, below_or_not, keeps_in, satisfies_kept}
use Rattle.redraw.specs.Narrowing.{narrowed, widest_gap}
use Rattle.redraw.specs.Laws.{NarrowedSatisfy, NarrowedStayAbove, NarrowedStayBelow}
use Rattle.redraw.proofs.Narrow.{keeps_narrowed, length-narrowed}

-- ---- no end of a network is wider than the greatest gap that is kept

end_within : (end : Option ℤ) → IsEnd end → end_size end ≤ widest_gap
end_within None h = omega arith
end_within (Some (pos n)) h =
    let most : pos n ≤ℤ pos widest_gap = h.1 in omega (arith, ints)
end_within (Some (negsuc n)) h =
    let least : neg_ℤ (pos widest_gap) ≤ℤ negsuc n = h.0 in omega (arith, ints)

causes_within : (cs : List Cause) → ((i : ℕ) (c : Cause) → slice_get cs i ≡ Some c → AreEnds c.range) → widest_of_causes cs ≤ widest_gap
causes_within [] h = omega arith
causes_within (c ∷ cs) h =
    let rest : widest_of_causes cs ≤ widest_gap = causes_within cs (λ i x e. h (suc i) x e) in
    let here : AreEnds c.range = h 0 c refl in
    let low : end_size c.range.low ≤ widest_gap = end_within c.range.low here.0 in
    let high : end_size c.range.high ≤ widest_gap = end_within c.range.high here.1 in
    most (end_size c.range.low) (end_size c.range.high) (widest_of_causes cs) widest_gap low high rest where
      most : (a b c w : ℕ) → a ≤ w → b ≤ w → c ≤ w → max (max a b) c ≤ w
      most a b c w p q r = omega arith

constraints_within : (ks : List Constraint)
    → ((k i : ℕ) (c : Cause) → option_and_then (λ (x : Constraint). slice_get x.causes i) (slice_get ks k) ≡ Some c → AreEnds c.range)
    → widest_of ks ≤ widest_gap
constraints_within [] h = omega arith
constraints_within (k ∷ ks) h =
    let rest : widest_of ks ≤ widest_gap = constraints_within ks (λ n i c e. h (suc n) i c e) in
    let here : widest_of_causes k.causes ≤ widest_gap = causes_within k.causes (λ i c e. h 0 i c e) in
    most (widest_of_causes k.causes) (widest_of ks) widest_gap here rest where
      most : (a b w : ℕ) → a ≤ w → b ≤ w → max a b ≤ w
      most a b w p q = omega arith

pub widest_within : (net : Net) → IsNet net → widest_end net ≤ widest_gap
widest_within net is_net = constraints_within net.constraints is_net.ends

-- ---- what keeps separations up to a width keeps separations up to a smaller width

kept_smaller : (width less : ℕ) (old new : ℤ) → less ≤ width → IsKept width old new → IsKept less old new
kept_smaller width less old new le kept = record {
  near = λ low high. kept.near low (omega (arith, ints));
  wide = λ far. elim (below_or_not (pos width) old) [
    | inl wide ↦ let up : pos width ≤ℤ new = kept.wide wide in omega (arith, ints)
    | inr near ↦ let same : new ≡ old = kept.near (omega (arith, ints)) near in omega (arith, ints)
  ];
}

pub keeps_smaller : (width less events : ℕ) (times others : List ℤ) → less ≤ width → KeepsNear width events times others → KeepsNear less events times others
keeps_smaller width less events times others le keeps from to in_from in_to = kept_smaller width less _ _ le (keeps from to in_from in_to)

pub narrowed_satisfy : NarrowedSatisfy
narrowed_satisfy net times is_net h =
    satisfies_kept net times (narrowed widest_gap times) is_net (length-narrowed widest_gap times ∙ h.count)
    (keeps_in (widest_end net) (length times) net.events times (narrowed widest_gap times) h.count
    (keeps_smaller widest_gap (widest_end net) (length times) times (narrowed widest_gap times) (widest_within net is_net) (keeps_narrowed widest_gap times))) h

-- ---- past an end

pub stays_above : (width : ℕ) (a b a' b' high : ℤ) → neg_ℤ (pos width) ≤ℤ high → high <ℤ pos width → IsKept width (b -ℤ a) (b' -ℤ a') → IsKept width (a -ℤ b) (a' -ℤ b')
    → high <ℤ (b -ℤ a) → high <ℤ (b' -ℤ a')
stays_above width a b a' b' high low within kept back h = elim (below_or_not (pos width) (b -ℤ a)) [
  | inl wide ↦ let new : pos width ≤ℤ (b' -ℤ a') = kept.wide wide in omega (arith, ints)
  | inr near ↦ elim (below_or_not (b -ℤ a) (pos 0)) [
    | inl less ↦ elim (below_or_not (pos width) (a -ℤ b)) [
      | inl far ↦ absurd (omega (arith, ints))
      | inr here ↦ let new : (a' -ℤ b') ≡ (a -ℤ b) = back.near (omega (arith, ints)) here in omega (arith, ints)
    ]
    | inr up ↦ let new : (b' -ℤ a') ≡ (b -ℤ a) = kept.near up near in omega (arith, ints)
  ]
]

pub narrowed_stay_above : NarrowedStayAbove
narrowed_stay_above times from to high in_from in_to inner h =
    stays_above widest_gap (time_of times from) (time_of times to) (time_of (narrowed widest_gap times) from) (time_of (narrowed widest_gap times) to) high inner.0 inner.1 (keeps_narrowed widest_gap times from to in_from in_to) (keeps_narrowed widest_gap times to from in_to in_from) h

-- a separation below a low end is, reversed, above minus that end
pub stays_below : (width : ℕ) (a b a' b' low : ℤ) → neg_ℤ (pos width) <ℤ low → low ≤ℤ pos width → IsKept width (b -ℤ a) (b' -ℤ a') → IsKept width (a -ℤ b) (a' -ℤ b')
    → (b -ℤ a) <ℤ low → (b' -ℤ a') <ℤ low
stays_below width a b a' b' low least most kept back h =
    let turned : (pos 0 -ℤ low) <ℤ (a' -ℤ b') = stays_above width b a b' a' (pos 0 -ℤ low) (omega (arith, ints)) (omega (arith, ints)) back kept (omega (arith, ints)) in
    omega (arith, ints)

pub narrowed_stay_below : NarrowedStayBelow
narrowed_stay_below times from to low in_from in_to inner h =
    stays_below widest_gap (time_of times from) (time_of times to) (time_of (narrowed widest_gap times) from) (time_of (narrowed widest_gap times) to) low inner.0 inner.1 (keeps_narrowed widest_gap times from to in_from in_to) (keeps_narrowed widest_gap times to from in_to in_from) h
