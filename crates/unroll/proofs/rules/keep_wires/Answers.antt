use Rattle.std.proofs.Common.{◌≡◌, ◌∙◌, ap}
use Rattle.compose.specs.Design.{DesignView}
use Rattle.unroll.proofs.BetweenLists.{wire_rules}
use Rattle.unroll.proofs.PartLists.{rules_unmoved}
use Rattle.unroll.proofs.rules.keep_wires.Goals as goal

pub keep_rules-requires-clause-between : goal.keep_rules-requires-clause-between
keep_rules-requires-clause-between c = rw (c.as_slice-wires.ensures.items, c.wire_rules.ensures.rules, c.design-2.ensures.design) (wire_rules c.args.design.now c.design.ensures.whole c.design.ensures.few)

pub returns : goal.returns
returns c =
    let d = c.args.design.now in
    let cycles : c.cycles-cycles.result ≡ d.cycles = c.cycles-cycles.ensures.cycles ∙ ap (λ (x : DesignView). x.cycles) c.design.ensures.design in
    let wires : c.as_slice-wires.result.now ≡ d.rules = c.as_slice-wires.ensures.items ∙ c.wire_rules.ensures.rules ∙ ap (λ (x : DesignView). x.rules) c.design-2.ensures.design in
    rw (cycles, wires, rules_unmoved d.rules) at c.keep_rules.ensures
