use Rattle.std.proofs.Common.{◌≡◌, ◌∷◌, ◌++◌, [], map, codes}
use Rattle.std.specs.List.{range_with_len}
use Rattle.serde_json.specs.View.{view}
use Rattle.design_gen.specs.Trees.{part, slave_part}
use Rattle.design_gen.proofs.netlist.parts.Given as goal

abbrev pub invariant-loop-slave : goal.invariant-loop-slave
invariant-loop-slave l = map view l.list.items ≡ (part (codes "M") (codes "master.json") ∷ []) ++ map slave_part (range_with_len 0 l.slave)
