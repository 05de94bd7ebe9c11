-- The shelf, filled with one file after another.
use Rattle.std.proofs.Common.{◌≡◌, List, ℕ, [], subst}
use Rattle.serde_json.specs.Data.{Data}
use Rattle.itv_base.specs.Memory.{ShelfMemView}
use Rattle.itv_base.specs.Outside.{Files}
use Rattle.design_gen.specs.Files.{with_tree}

-- a new shelf with some files
abbrev pub shelf_with : Files → ShelfMemView
shelf_with files = record { files = files; failing = []; calls = 0; faults = 0; last = [] }

-- one more file was added to the shelf
pub added : (old new : ShelfMemView) (files : Files) (name : List ℕ) (tree wanted : Data) → old ≡ shelf_with files → tree ≡ wanted
    → new ≡ record old { files = with_tree old.files name tree } → new ≡ shelf_with (with_tree files name wanted)
added old new files name tree wanted was is h =
    let of : new ≡ record old { files = with_tree old.files name wanted } = subst (λ d. new ≡ record old { files = with_tree old.files name d }) is h in
    subst (λ (o : ShelfMemView). new ≡ record o { files = with_tree o.files name wanted }) was of
