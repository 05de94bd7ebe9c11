use Rattle.std.proofs.Common.{codes, subst}
use Rattle.std.specs.FinMap as map
use Rattle.design_gen.specs.Files.{ReadsBack}
use Rattle.design_gen.specs.Trees.{bus, master, merge, slave}
use Rattle.design_gen.proofs.Depth.{bus_depth}
use Rattle.design_gen.proofs.Filling.{added}
use Rattle.design_gen.proofs.Floats.{bus_whole}
use Rattle.design_gen.proofs.design.add_files.Goals as goal

pub add_tree-requires-clause-depth : goal.add_tree-requires-clause-depth
add_tree-requires-clause-depth c = rw c.in_ok-bus.ensures.tree (bus_depth c.args.n)

pub add_tree-requires-clause-no_float : goal.add_tree-requires-clause-no_float
add_tree-requires-clause-no_float c = rw c.in_ok-bus.ensures.tree (bus_whole c.args.n)

pub returns : goal.returns
returns c =
    let one = added c.args.shelf.now c.add_tree.new.shelf map.empty (codes "bus.json") _ (bus c.args.n) c.requires.new c.in_ok-bus.ensures.tree c.in_ok-add_tree.ensures.adds in
    let two = added c.add_tree.new.shelf c.add_tree-2.new.shelf _ (codes "master.json") _ master one c.in_ok-master.ensures.tree c.in_ok-add_tree-2.ensures.adds in
    let three = added c.add_tree-2.new.shelf c.add_tree-3.new.shelf _ (codes "slave.json") _ slave two c.in_ok-slave.ensures.tree c.in_ok-add_tree-3.ensures.adds in
    record {
      design = added c.add_tree-3.new.shelf c.add_tree-4.new.shelf _ (codes "merge.json") _ merge three c.in_ok-merge.ensures.tree c.in_ok-add_tree-4.ensures.adds;
      reads_back = (
        subst ReadsBack c.in_ok-bus.ensures.tree c.in_ok-add_tree.ensures.reads_back,
        subst ReadsBack c.in_ok-master.ensures.tree c.in_ok-add_tree-2.ensures.reads_back,
        subst ReadsBack c.in_ok-slave.ensures.tree c.in_ok-add_tree-3.ensures.reads_back,
        subst ReadsBack c.in_ok-merge.ensures.tree c.in_ok-add_tree-4.ensures.reads_back,
      );
    }
