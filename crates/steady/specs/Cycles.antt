-- Over how many cycles a design is run.
use Rattle.std.specs.Prelude.{ℕ, ◌+◌, max, List, fold}
use Rattle.sheet.specs.declared.row.SheetRow.{SheetRow}

-- how far rows look back at most
abbrev pub greatest_shift : List SheetRow → ℕ
greatest_shift rows = fold (λ most row. max row.shift most) 0 rows

-- At least as many cycles as are drawn, at least two, and at least one more than the first cycle that is asked for and the greatest shift of a row together.
abbrev pub cycles_for : ℕ → ℕ → List SheetRow → ℕ
cycles_for from drawn rows = max (max drawn 2) (from + greatest_shift rows + 1)
