-- A shelf with the files of the generated design.
use Rattle.std.specs.Prelude.{◌≡◌, ◌<◌, ◌≤◌, ◌⊎◌, ℕ, List, [], IfSome, Some, codes, length}
use Rattle.std.specs.FinMap as map
use Rattle.std.specs.Str.{IsUtf8}
use Rattle.serde_json.specs.Data.{Data}
use Rattle.serde_json.specs.Read.{read}
use Rattle.serde_json.specs.Written.{compact_text}
use Rattle.itv_base.specs.Memory.{ShelfMemView}
use Rattle.itv_base.specs.Outside.{Files, file_of}
use Rattle.itv_base.specs.declared.limits.TheConstants.{FILE_LIMIT, MAX_SELF_SIZE}
use Rattle.design_gen.specs.Trees.{bus, master, merge, slave}
use Rattle.design_gen.specs.declared.fault.GenFault.{GenFault}
use Rattle.design_gen.specs.declared.fault.GenFault.TheVariants.{NoMemory, OutOfRange}

-- files with one more: a tree, as its text without spaces
abbrev pub with_tree : Files → List ℕ → Data → Files
with_tree files name tree = map.insert files name (compact_text tree)

-- the files of the design of a size: the netlist and its three sheets
abbrev pub design_files : ℕ → Files
design_files n =
    with_tree (with_tree (with_tree (with_tree map.empty (codes "bus.json") (bus n)) (codes "master.json") master) (codes "slave.json") slave) (codes "merge.json") merge

-- a new shelf with the files of the design; no call of the shelf is to fail
abbrev pub IsDesignShelf : ℕ → ShelfMemView → Type 0
IsDesignShelf n shelf = shelf ≡ record { files = design_files n; failing = []; calls = 0; faults = 0; last = [] }

-- there is a design of this size
pub record IsSize (n : ℕ) : Type 0 where
  pub low : 1 ≤ n
  pub high : n ≤ MAX_SELF_SIZE

-- why no design of a size was made: there is no design of this size, or there is one and memory ran out
abbrev pub IsGenFault : ℕ → GenFault → Type 0
IsGenFault n (OutOfRange size) = (size ≡ n) × ((n < 1) ⊎ (MAX_SELF_SIZE < n))
IsGenFault n NoMemory = IsSize n

-- ---- what follows of the bytes

-- the text of a tree is a text that reads as the tree
pub record ReadsBack (tree : Data) : Type 0 where
  pub utf8 : IsUtf8 (compact_text tree)
  pub reads : read (compact_text tree) ≡ Some tree

-- the text of each tree of a size reads back as the tree
abbrev pub ReadBack : ℕ → Type 0
ReadBack n = ReadsBack (bus n) × ReadsBack master × ReadsBack slave × ReadsBack merge

-- no file of a size is too long to be read
abbrev pub FilesFit : Type 0
FilesFit = (n : ℕ) → IsSize n → (name : List ℕ) → IfSome (file_of (design_files n) name) (λ bytes. length bytes ≤ FILE_LIMIT)
