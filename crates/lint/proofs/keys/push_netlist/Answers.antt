use Rattle.std.proofs.Common.{arith}
use Rattle.lint.specs.Texts.{netlist_key}
use Rattle.lint.proofs.EachLists.{each_there}
use Rattle.lint.proofs.keys.push_netlist.Goals as goal

pub loop-key-preserved : goal.loop-key-preserved
loop-key-preserved c =
    each_there netlist_key c.args.stray.now c.loop-key.key c.args.warnings.now.items c.loop-key.warnings.items c.push.new.self.items (omega (arith, c.loop-key-test.true, c.len-key-end.ensures.count))
    c.loop-key.invariant (λ key. c.in_ok-push.ensures.items)
