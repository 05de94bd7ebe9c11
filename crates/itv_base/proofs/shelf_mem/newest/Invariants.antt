use Rattle.std.proofs.Common.{◌≡◌, drop}
use Rattle.std.specs.Cmp.Lexicographic.{slice_cmp}
use Rattle.std.specs.Ordering.{nat_cmp}
use Rattle.std.specs.FinMap as map
use Rattle.itv_base.proofs.shelf_mem.newest.Given as goal

-- the file is the first of its name in what is left
abbrev pub invariant-loop-entry : goal.invariant-loop-entry
invariant-loop-entry l =
    map.get {R = slice_cmp nat_cmp} (map.from_entries l.files) l.name ≡ map.find (slice_cmp nat_cmp) l.name (drop l.entry-index l.files)
