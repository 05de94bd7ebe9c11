use Rattle.std.proofs.Common.{◌++◌, map}
use Rattle.serde_json.specs.Data.{string}
use Rattle.serde_json.specs.View.{view}
use Rattle.design_gen.specs.Trees.{slave_name}
use Rattle.design_gen.proofs.Slaves.{one_pushed}
use Rattle.design_gen.proofs.netlist.push_slave_texts.Goals as goal

pub loop-slave-preserved : goal.loop-slave-preserved
loop-slave-preserved c =
    one_pushed (λ slave. string (slave_name slave ++ c.args.end.now)) c.loop-slave.slave (map view c.args.list.now.items) _ _ _ c.in_ok-push.ensures.items c.loop-slave.invariant
    c.in_ok-slave_tree.ensures
