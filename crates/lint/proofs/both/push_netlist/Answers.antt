use Rattle.lint.proofs.CapLists.{netlist_caps}
use Rattle.lint.proofs.both.push_netlist.Goals as goal

pub returns : goal.returns
returns c = record {
  pushed = rw (c.deref.ensures.value, c.in_ok-caps.ensures.caps, netlist_caps c.args.plan.now.netlist.edges c.args.design.now.rules) at c.push_caps-pushed.ensures.pushed;
}
