use Rattle.std.proofs.Common.{◌∙◌, ap}
use Rattle.design_gen.specs.Trees.{list}
use Rattle.design_gen.proofs.Slaves.{bus_is, made_as}
use Rattle.design_gen.proofs.netlist.bus.Goals as goal

pub returns : goal.returns
returns c = record {
  tree = made_as c.netlist.result _ _ c.netlist.ensures
      (bus_is c.args.n _ _ _ (c.listed-parts.ensures ∙ ap list c.in_ok-parts.ensures) c.in_ok-nets.ensures (c.listed-edges.ensures ∙ ap list c.in_ok-wires.ensures));
}
