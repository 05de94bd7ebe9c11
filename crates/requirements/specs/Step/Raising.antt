-- By how much a separation has to rise.
use Rattle.std.specs.Prelude.{ℕ, ℤ, pos, negsuc, ◌-ℤ◌, ◌+ℤ◌}

-- a number, or 0 if it is below 0
abbrev pub not_negative : ℤ → ℕ
not_negative (pos n) = n
not_negative (negsuc n) = 0

-- the least number by which a separation has to rise to exceed a limit
abbrev pub rise_past : ℤ → ℤ → ℕ
rise_past value limit = not_negative ((limit -ℤ value) +ℤ pos 1)
