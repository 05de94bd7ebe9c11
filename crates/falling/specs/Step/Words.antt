-- The words of flags.
use Rattle.std.specs.Prelude.{◌≡◌, ◌<◌, ◌≤◌, ℕ, List, length, slice_index_or}
use Rattle.itv_base.specs.declared.limits.TheConstants.{MAX_CONSTRAINTS}
use Rattle.falling.specs.declared.pending_flags.PendingFlags.TheInside.{Inside}

-- the words before a place have no flag
abbrev pub AreEmpty : List ℕ → ℕ → Type 0
AreEmpty words start = (place : ℕ) → place < start → slice_index_or words place 0 ≡ 0

-- the words before the start have no flag, and the number of words is within its limit
pub record HasStart (p : Inside) : Type 0 where
  pub start : p.start ≤ length p.words.items
  pub empty : AreEmpty p.words.items p.start
  pub small : length p.words.items ≤ MAX_CONSTRAINTS
