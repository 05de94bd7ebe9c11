-- The names of events as they are kept, with the number of the part in place of its name.
use Rattle.std.specs.Prelude.{ℕ, ◌+◌, List, [], ◌∷◌, ◌++◌, map}
use Rattle.drawn_networks.specs.declared.event_label.EventLabel.{EventLabel}
use Rattle.sheet.specs.declared.mark.Mark.{Mark}
use Rattle.sheet.specs.SheetContents.{SheetView}

abbrev pub label_of : ℕ → ℕ → Mark → EventLabel
label_of part cycle mark = record { part = part; mark = mark.name; cycle = cycle }

-- the labels of the marks of parts in a cycle; the first part has this number
abbrev pub labels_from : ℕ → ℕ → List SheetView → List EventLabel
labels_from cycle part [] = []
labels_from cycle part (sheet ∷ sheets) = map (label_of part cycle) sheet.marks ++ labels_from cycle (part + 1) sheets
