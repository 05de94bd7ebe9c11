use Rattle.std.proofs.Common.{◌≡◌, ◌++◌, map}
use Rattle.serde_json.specs.View.{view}
use Rattle.design_gen.specs.Trees.{slave_texts}
use Rattle.design_gen.proofs.netlist.push_slave_texts.Given as goal

abbrev pub invariant-loop-slave : goal.invariant-loop-slave
invariant-loop-slave l = map view l.list.items ≡ map view l.initial.list.items ++ slave_texts l.slave l.end
