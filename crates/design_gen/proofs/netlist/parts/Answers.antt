use Rattle.std.proofs.Common.{◌∷◌, [], codes}
use Rattle.design_gen.specs.Trees.{part, slave_part}
use Rattle.design_gen.proofs.Slaves.{one_pushed}
use Rattle.design_gen.proofs.netlist.parts.Goals as goal

pub loop-slave-preserved : goal.loop-slave-preserved
loop-slave-preserved c =
    one_pushed slave_part c.loop-slave.slave (part (codes "M") (codes "master.json") ∷ []) _ _ _ c.in_ok-push-2.ensures.items c.loop-slave.invariant c.in_ok-slave_part.ensures
