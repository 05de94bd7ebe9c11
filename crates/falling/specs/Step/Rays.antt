-- How the level of a gap is looked for.
use Rattle.std.specs.Prelude.{◌≡◌, ◌⊎◌, ◌<◌, ◌+◌, ◌-◌, ◌*◌, ℕ, ℤ, pos, ◌≤ℤ◌, ◌<ℤ◌, Bool, List, [], ◌∷◌, length, Some, slice_get, slice_index_or, int_lt, if◌then◌else◌}
use Rattle.event_graph.specs.Network.{Net}
use Rattle.falling.specs.Cap.{widest_end}

-- how many values are above a level
abbrev pub above : ℤ → List ℤ → ℕ
above level [] = 0
above level (value ∷ values) = (if int_lt level value then 1 else 0) + above level values

-- a level of at least 0 that was reached in steps of at most the widest end, no more steps than values are above 0 and not above the level
pub record IsClimbed (net : Net) (values : List ℤ) (level : ℤ) : Type 0 where
  pub low : pos 0 ≤ℤ level
  pub high : level ≤ℤ pos ((above (pos 0) values - above level values) * widest_end net)

-- a step from a level to the other, if the other is beyond it and at most the greatest that is allowed; else the level stays
abbrev pub IsStepTo : ℤ → ℤ → ℤ → ℤ → Type 0
IsStepTo level most other result =
    ((result ≡ other) × (level <ℤ other) × (other ≤ℤ most)) ⊎ ((result ≡ level) × ((other ≤ℤ level) ⊎ (most <ℤ other)))

-- a flag for each value, which says whether it is above a level
pub record HaveAbove (level : ℤ) (values : List ℤ) (flags : List Bool) : Type 0 where
  pub count : length flags ≡ length values
  pub each : (i : ℕ) → i < length values → slice_get flags i ≡ Some (int_lt level (slice_index_or values i (pos 0)))
