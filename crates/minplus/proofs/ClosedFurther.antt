-- A matrix that is improved through one more event: detours over the events so far are no shorter, and each entry still bounds its separations.
use Rattle.std.proofs.Common.{◌≡◌, ◌+◌, ◌<◌, inl, inr, ℕ, ℤ, pos, ◌+ℤ◌, sym, subst, arith}
use Rattle.std.proofs.lemmas.Bool.{cases_eq}
use Rattle.std.proofs.lemmas.Int.{ints}
use lib.Signed.{◌≤ℤ◌}
use Rattle.event_graph.specs.Network.{Net}
use Rattle.event_graph.specs.Times.{separation}
use Rattle.minplus.specs.Rows.{IsEntry}
use Rattle.minplus.specs.Step.Entries.{BoundsAlways, Entries, IsClosedBelow, IsPresent, IsThrough, IsAtMostSum}
use Rattle.minplus.proofs.Numbers.{small_there}

-- each entry is a small number, or absent
abbrev pub AreEntries : Entries → Type 0
AreEntries entries = (from to : ℕ) → IsEntry (entries from to)

-- the diagonal is 0, so the row and the column of the event stay
row_stays : (event : ℕ) (old new : Entries) (to : ℕ) → IsThrough event old new → old event event ≡ pos 0 → new event to ≡ old event to
row_stays event old new to through zero_there =
    elim (through.made event to) [
      | inl same ↦ same
      | inr sum ↦ let is : new event to ≡ old event event +ℤ old event to = sum.2 in omega (arith, ints)
    ]

column_stays : (event : ℕ) (old new : Entries) (from : ℕ) → IsThrough event old new → old event event ≡ pos 0 → new from event ≡ old from event
column_stays event old new from through zero_there =
    elim (through.made from event) [
      | inl same ↦ same
      | inr sum ↦ let is : new from event ≡ old from event +ℤ old event event = sum.2 in omega (arith, ints)
    ]

-- neither of two entries is new: the new entry is within their sum
both_old : (event over from to : ℕ) (old new : Entries) → IsThrough event old new → IsClosedBelow event old → over < event
    → IsPresent (old from over) → IsPresent (old over to) → new from to ≤ℤ (old from over +ℤ old over to)
both_old event over from to old new through closed low first second =
    let within : old from to ≤ℤ (old from over +ℤ old over to) = closed over from to low first second in
    let falls : new from to ≤ℤ old from to = through.falls from to in
    omega (arith, ints)

-- an entry is present if the two entries are, whose sum it does not exceed
pub sum_there : (entry first second : ℤ) → IsEntry first → IsEntry second → IsPresent first → IsPresent second → entry ≤ℤ (first +ℤ second) → IsPresent entry
sum_there entry first second one two first_there second_there within =
    let low = small_there first one first_there in
    let high = small_there second two second_there in
    omega (arith, ints)

second_new : (event over from to : ℕ) (old new : Entries) → AreEntries old → IsThrough event old new → IsClosedBelow event old → over < event
    → IsPresent (old from over) → IsPresent (old over event) → IsPresent (old event to) → new from to ≤ℤ (old from over +ℤ (old over event +ℤ old event to))
second_new event over from to old new held through closed low first second third =
    let within : old from event ≤ℤ (old from over +ℤ old over event) = closed over from event low first second in
    let there : IsPresent (old from event) = sum_there _ _ _ (held from over) (held over event) first second within in
    let least : new from to ≤ℤ (old from event +ℤ old event to) = through.least from to there third in
    omega (arith, ints)

first_new : (event over from to : ℕ) (old new : Entries) → AreEntries old → IsThrough event old new → IsClosedBelow event old → over < event
    → IsPresent (old from event) → IsPresent (old event over) → IsPresent (old over to) → new from to ≤ℤ ((old from event +ℤ old event over) +ℤ old over to)
first_new event over from to old new held through closed low first second third =
    let within : old event to ≤ℤ (old event over +ℤ old over to) = closed over event to low second third in
    let there : IsPresent (old event to) = sum_there _ _ _ (held event over) (held over to) second third within in
    let least : new from to ≤ℤ (old from event +ℤ old event to) = through.least from to first there in
    omega (arith, ints)

both_new : (event over from to : ℕ) (old new : Entries) → IsThrough event old new → IsClosedBelow event old → over < event → old event event ≡ pos 0
    → IsPresent (old from event) → IsPresent (old event over) → IsPresent (old over event) → IsPresent (old event to)
    → new from to ≤ℤ ((old from event +ℤ old event over) +ℤ (old over event +ℤ old event to))
both_new event over from to old new through closed low zero_there first second third fourth =
    let loop : old event event ≤ℤ (old event over +ℤ old over event) = closed over event event low second third in
    let least : new from to ≤ℤ (old from event +ℤ old event to) = through.least from to first fourth in
    omega (arith, ints)

-- the new entries keep the fact: each part was there before or goes over the event
over_lower : (event over from to : ℕ) (old new : Entries) → AreEntries old → IsThrough event old new → IsClosedBelow event old → over < event → old event event ≡ pos 0
    → IsAtMostSum (new from to) (new from over) (new over to)
over_lower event over from to old new held through closed low zero_there first second =
    elim (through.made from over) [
      | inl old_first ↦
          let first_is : new from over ≡ old from over = old_first in
          let first_there : IsPresent (old from over) = omega (arith, ints) in
          elim (through.made over to) [
            | inl old_second ↦
                let second_is : new over to ≡ old over to = old_second in
                let second_there : IsPresent (old over to) = omega (arith, ints) in
                let within = both_old event over from to old new through closed low first_there second_there in
                omega (arith, ints)
            | inr sum ↦
                let second_is : new over to ≡ old over event +ℤ old event to = sum.2 in
                let within = second_new event over from to old new held through closed low first_there sum.0 sum.1 in
                omega (arith, ints)
          ]
      | inr sum ↦
          let first_is : new from over ≡ old from event +ℤ old event over = sum.2 in
          elim (through.made over to) [
            | inl old_second ↦
                let second_is : new over to ≡ old over to = old_second in
                let second_there : IsPresent (old over to) = omega (arith, ints) in
                let within = first_new event over from to old new held through closed low sum.0 sum.1 second_there in
                omega (arith, ints)
            | inr other ↦
                let second_is : new over to ≡ old over event +ℤ old event to = other.2 in
                let within = both_new event over from to old new through closed low zero_there sum.0 sum.1 other.0 other.1 in
                omega (arith, ints)
          ]
    ]

over_event : (event from to : ℕ) (old new : Entries) → IsThrough event old new → old event event ≡ pos 0 → IsAtMostSum (new from to) (new from event) (new event to)
over_event event from to old new through zero_there first second =
    let column : new from event ≡ old from event = column_stays event old new from through zero_there in
    let row : new event to ≡ old event to = row_stays event old new to through zero_there in
    let first_there : IsPresent (old from event) = omega (arith, ints) in
    let second_there : IsPresent (old event to) = omega (arith, ints) in
    let least : new from to ≤ℤ (old from event +ℤ old event to) = through.least from to first_there second_there in
    omega (arith, ints)

-- no detour over the events up to this one is shorter
pub closed_further : (event : ℕ) (old new : Entries) → AreEntries old → IsThrough event old new → IsClosedBelow event old → old event event ≡ pos 0 → IsClosedBelow (event + 1) new
closed_further event old new held through closed zero_there =
    λ over from to below.
    elim (cases_eq over event) [
      | inl same ↦
          let P : ℕ → Type 0 = λ at. IsAtMostSum (new from to) (new from at) (new at to) in
          subst P (sym same) (over_event event from to old new through zero_there)
      | inr apart ↦ over_lower event over from to old new held through closed (omega arith) zero_there
    ]

-- the new entries still bound the separations
pub bounds_further : (net : Net) (event : ℕ) (old new : Entries) → IsThrough event old new → BoundsAlways net old → BoundsAlways net new
bounds_further net event old new through bounds =
    λ times met from to there.
    elim (through.made from to) [
      | inl same ↦
          let is : new from to ≡ old from to = same in
          let was : IsPresent (old from to) = omega (arith, ints) in
          let most : separation times (record { 0 = from }) (record { 0 = to }) ≤ℤ old from to = bounds times met from to was in
          omega (arith, ints)
      | inr sum ↦
          let is : new from to ≡ old from event +ℤ old event to = sum.2 in
          let first : separation times (record { 0 = from }) (record { 0 = event }) ≤ℤ old from event = bounds times met from event sum.0 in
          let second : separation times (record { 0 = event }) (record { 0 = to }) ≤ℤ old event to = bounds times met event to sum.1 in
          omega (arith, ints)
    ]
