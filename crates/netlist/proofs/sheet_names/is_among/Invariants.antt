use Rattle.std.proofs.Common.{◌≡◌, drop}
use Rattle.std.specs.List.{list_any}
use Rattle.std.specs.Str.{bytes_eq}
use Rattle.netlist.proofs.sheet_names.is_among.Given as goal

-- the names so far are others
abbrev pub invariant-loop-k : goal.invariant-loop-k
invariant-loop-k l = list_any (bytes_eq l.name) (drop l.k l.names) ≡ list_any (bytes_eq l.name) l.names
