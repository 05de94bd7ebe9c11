-- A stored matrix as the entries of pairs.
use Rattle.std.specs.Prelude.{ℤ, List, map, Option}
use Rattle.minplus.specs.Matrix.{number_of}
use Rattle.job_matrix.specs.Matrix.{Entries}

-- the entries of a stored row
abbrev pub numbers_of : List ℤ → List (Option ℤ)
numbers_of row = map number_of row

abbrev pub entries_of : List (List ℤ) → Entries
entries_of rows = map numbers_of rows
