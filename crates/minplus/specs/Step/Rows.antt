-- How single rows change.
use Rattle.std.specs.Prelude.{◌≡◌, ◌≢◌, ◌<◌, ◌≤◌, ◌⊎◌, ℕ, ℤ, ◌+ℤ◌, ◌≤ℤ◌, List, length}
use Rattle.std.specs.Int.{int_min}
use Rattle.minplus.specs.Rows.{entry_at, improved}
use Rattle.minplus.specs.Step.Entries.{IsPresent, IsAtMostSum}

-- the entries from the place `first` up to the place before `last` were improved by the entries of another row. No other entry changed
pub record ImprovesPart (weight : ℤ) (first last : ℕ) (old other new : List ℤ) : Type 0 where
  pub count : length new ≡ length old
  pub each : (place : ℕ) → first ≤ place → place < last → entry_at new place ≡ improved weight (entry_at old place) (entry_at other place)
  pub below : (place : ℕ) → place < first → entry_at new place ≡ entry_at old place
  pub above : (place : ℕ) → last ≤ place → entry_at new place ≡ entry_at old place

-- a row was improved through an event, where `through` is the event's own row
pub record RowThrough (event : ℕ) (old through new : List ℤ) : Type 0 where
  pub count : length new ≡ length old
  pub falls : (to : ℕ) → entry_at new to ≤ℤ entry_at old to
  pub least : (to : ℕ) → IsAtMostSum (entry_at new to) (entry_at old event) (entry_at through to)
  pub made : (to : ℕ) → (entry_at new to ≡ entry_at old to)
      ⊎ (IsPresent (entry_at old event) × IsPresent (entry_at through to) × (entry_at new to ≡ (entry_at old event +ℤ entry_at through to)))

-- the entry of a row at a place became the lesser of itself and a weight. No other entry changed
pub record LowersEntry (place : ℕ) (weight : ℤ) (old new : List ℤ) : Type 0 where
  pub count : length new ≡ length old
  pub lowered : entry_at new place ≡ int_min (entry_at old place) weight
  pub others : (other : ℕ) → other ≢ place → entry_at new other ≡ entry_at old other
