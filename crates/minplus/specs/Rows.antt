-- Rows of a matrix of path lengths, in picoseconds. An entry is a number, or stands for no path.
use Rattle.std.specs.Prelude.{◌≡◌, ◌^◌, ◌⊎◌, ℕ, ℤ, pos, neg_ℤ, ◌+ℤ◌, ◌<ℤ◌, List, length, slice_index_or, int_le, if◌then◌else◌}
use Rattle.std.specs.Int.{int_min}
use Rattle.minplus.specs.declared.rows.TheConstants.{ABSENT}

-- the entry of a row at a place, or `ABSENT` past the row's end
abbrev pub entry_at : List ℤ → ℕ → ℤ
entry_at row place = slice_index_or row place ABSENT

-- the lesser of an entry and another entry plus a weight. If the other entry is absent, the entry stays
abbrev pub improved : ℤ → ℤ → ℤ → ℤ
improved weight entry other = if int_le ABSENT other then entry else int_min entry (other +ℤ weight)

-- a number below 2^61 in absolute value
pub record IsSmall (number : ℤ) : Type 0 where
  pub low : neg_ℤ (pos (2 ^ 61)) <ℤ number
  pub high : number <ℤ pos (2 ^ 61)

-- an entry is absent or a small number
abbrev pub IsEntry : ℤ → Type 0
IsEntry entry = (entry ≡ ABSENT) ⊎ IsSmall entry

-- each entry of a row was improved by the entry at its place in another row
pub record Improves (weight : ℤ) (old other new : List ℤ) : Type 0 where
  pub count : length new ≡ length old
  pub each : (place : ℕ) → entry_at new place ≡ improved weight (entry_at old place) (entry_at other place)
