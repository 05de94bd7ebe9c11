-- What settled values of a derivation say.
use Rattle.std.proofs.Common.{◌≡◌, ◌<◌, inl, inr, ℕ, ℤ, pos, ◌+ℤ◌, ◌-ℤ◌, ◌≤ℤ◌, ◌<ℤ◌, Bool, true, false, List, [], ◌∷◌, length, get_or, set, replicate, Some, slice_get, sym, ap, ◌∙◌, refl, subst, arith}
use Rattle.std.proofs.Math.ListN.{length-set}
use Rattle.std.proofs.lemmas.Int.{ints}
use Rattle.std.proofs.lemmas.List.{length-replicate}
use Rattle.itv_base.specs.declared.names.EventId.{EventId}
use Rattle.itv_base.proofs.Lists.{found_below}
use Rattle.event_graph.specs.Network.{Net}
use Rattle.event_graph.specs.Satisfying.{Satisfies}
use Rattle.event_graph.specs.Times.{raised, time_of}
use Rattle.event_graph.proofs.Rays.{get_or-raised_in, get_or-raised_out, length-raised}
use Rattle.falling.specs.declared.line.FallLine.{FallLine}
use Rattle.falling.specs.Cap.{cap, widest_end}
use Rattle.falling.specs.Derivation.{IsDerivation, IsEnded, DerivationLeads, fallen, starting_values}
use Rattle.falling.specs.Rays.{IsApartBy}
use Rattle.falling.specs.Laws.{GapIsRay, SettledCloses}
use Rattle.falling.proofs.Bounding.{derivation_bounds, set_at}
use Rattle.falling.proofs.Counting.{length-derived}
use Rattle.falling.proofs.Near.{IsKept, KeepsNear, below_or_not, keeps_in, satisfies_kept}
use Rattle.falling.proofs.Settling.{settled_satisfies}

-- ---- a set that is apart is a ray

abbrev raised_at : Bool → ℤ → ℕ → ℤ
raised_at true time by = time +ℤ pos by
raised_at false time by = time

time_of-raised : (set : List Bool) (by : ℕ) (times : List ℤ) (i : ℕ) (flag : Bool) → slice_get set i ≡ Some flag → i < length times
    → get_or (raised set by times) i (pos 0) ≡ raised_at flag (get_or times i (pos 0)) by
time_of-raised set by times i true here within = get_or-raised_in set by times i here within
time_of-raised set by times i false here within = get_or-raised_out set by times i here

kept_raised : (width : ℕ) (a b : ℤ) (in_a in_b : Bool) (by : ℕ) → (in_a ≡ false → in_b ≡ true → (a +ℤ pos width) <ℤ b) → (in_a ≡ true → in_b ≡ false → (b +ℤ pos width) <ℤ a)
    → IsKept width (b -ℤ a) (raised_at in_b b by -ℤ raised_at in_a a by)
kept_raised width a b true true by up down = record { near = λ m n. omega (arith, ints); wide = λ m. omega (arith, ints) }
kept_raised width a b true false by up down =
    let apart : (b +ℤ pos width) <ℤ a = down refl refl in
    record { near = λ m n. absurd (omega (arith, ints)); wide = λ m. absurd (omega (arith, ints)) }
kept_raised width a b false true by up down =
    let apart : (a +ℤ pos width) <ℤ b = up refl refl in
    record { near = λ m n. absurd (omega (arith, ints)); wide = λ m. omega (arith, ints) }
kept_raised width a b false false by up down = record { near = λ m n. omega (arith, ints); wide = λ m. omega (arith, ints) }

keeps_raised : (width : ℕ) (set : List Bool) (by : ℕ) (times : List ℤ) → length set ≡ length times → IsApartBy width set times → KeepsNear width (length times) times (raised set by times)
keeps_raised width set by times same apart from to in_from in_to =
    let (flag_from, at_from) = found_below set from.0 (omega arith) in
    let (flag_to, at_to) = found_below set to.0 (omega arith) in
    rw (time_of-raised set by times from.0 flag_from at_from in_from, time_of-raised set by times to.0 flag_to at_to in_to)
    (kept_raised width (time_of times from) (time_of times to) flag_from flag_to by
    (λ out in'. apart from to (at_from ∙ ap Some out) (at_to ∙ ap Some in')) (λ in' out. apart to from (at_to ∙ ap Some out) (at_from ∙ ap Some in')))

pub gap_is_ray : GapIsRay
gap_is_ray net from to set times is_net h count holds lacks apart = record {
  count = count;
  holds = holds;
  lacks = lacks;
  satisfies = λ by. satisfies_kept net times (raised set by times) is_net (length-raised set by times ∙ h.count)
      (keeps_in _ _ _ _ _ h.count (keeps_raised (widest_end net) set by times (count ∙ sym h.count) apart)) h;
}

-- ---- the source stays at 0 until a derivation ends

fallen_least : (values : List ℤ) (line : FallLine) (i : ℕ) → i < length values → line.value <ℤ time_of values line.event
    → get_or (fallen values line) i (pos 0) ≤ℤ get_or values i (pos 0)
fallen_least values line i within lower = elim (set_at values line.event.0 i line.value (pos 0) within) [
  | inl (e, here) ↦ rw (here, e) (le_of _ _ lower)
  | inr (not, here) ↦ rw here (omega (arith, ints))
] where
  le_of : (a b : ℤ) → a <ℤ b → a ≤ℤ b
  le_of a b h = omega (arith, ints)

lead_falls : (net : Net) (from : EventId) (values : List ℤ) (lines : List FallLine) (after : List ℤ) (i : ℕ) → i < length values → DerivationLeads net from values lines after
    → get_or after i (pos 0) ≤ℤ get_or values i (pos 0)
lead_falls net from values [] after i within leads = rw (← leads) (omega (arith, ints))
lead_falls net from values (line ∷ lines) after i within leads =
    let rest : get_or after i (pos 0) ≤ℤ get_or (fallen values line) i (pos 0) =
    lead_falls net from (fallen values line) lines after i (omega (arith, length-set values line.event.0 line.value)) leads.2 in
    let here : get_or (fallen values line) i (pos 0) ≤ℤ get_or values i (pos 0) = fallen_least values line i within leads.1.lower in
    omega (arith, ints)

pub start_source : (net : Net) (from : EventId) → from.0 < net.events → time_of (starting_values net from) from ≡ pos 0
start_source net from within =
    elim (set_at (replicate net.events (pos (cap net))) from.0 from.0 (pos 0) (pos 0) (omega (arith, length-replicate net.events (pos (cap net))))) [
      | inl (e, here) ↦ here
      | inr (not, here) ↦ absurd (not refl)
    ]

pub source_zero : (net : Net) (from : EventId) (lines : List FallLine) (values : List ℤ) → from.0 < net.events → IsDerivation net from lines values
    → (IsEnded net from values → ⊥) → time_of values from ≡ pos 0
source_zero net from lines values in_from derivation goes_on =
    let falls : time_of values from ≤ℤ time_of (starting_values net from) from =
    lead_falls net from (starting_values net from) lines values from.0
    (omega (arith, length-set (replicate net.events (pos (cap net))) from.0 (pos 0), length-replicate net.events (pos (cap net)))) derivation in
    let most : time_of values from ≤ℤ pos 0 = subst (λ z. time_of values from ≤ℤ z) (start_source net from in_from) falls in
    elim (below_or_not (time_of values from) (pos 0)) [
      | inl low ↦ absurd (goes_on (inl low))
      | inr high ↦ omega (arith, ints)
    ]

pub settled_closes : SettledCloses
settled_closes net from to lines values is_net plain in_from in_to derivation goes_on settled =
    let count : length values ≡ net.events = length-derived net from lines values is_net derivation in
    let satisfies : Satisfies values net = settled_satisfies net values is_net plain count settled in
    let at_zero : time_of values from ≡ pos 0 = source_zero net from lines values in_from derivation goes_on in (
      satisfies,
      at_zero,
      λ below. record {
        attained = (values, satisfies, from_zero (time_of values from) (time_of values to) at_zero);
        most = λ times h. derivation_bounds net from to lines values times is_net in_from in_to derivation below h;
      },
    ) where
      from_zero : (a b : ℤ) → a ≡ pos 0 → (b -ℤ a) ≡ b
      from_zero a b e = omega (arith, ints)
