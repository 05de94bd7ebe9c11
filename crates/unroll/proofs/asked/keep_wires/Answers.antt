use Rattle.std.proofs.Common.{◌≡◌, ◌∙◌, ap}
use Rattle.compose.specs.Design.{DesignView}
use Rattle.unroll.proofs.BetweenLists.{wire_rows}
use Rattle.unroll.proofs.PartLists.{rows_unmoved}
use Rattle.unroll.proofs.asked.keep_wires.Goals as goal

pub keep_rows-requires-clause-between : goal.keep_rows-requires-clause-between
keep_rows-requires-clause-between c = rw (c.as_slice-wires.ensures.items, c.wire_rows.ensures.rows, c.design-2.ensures.design) (wire_rows c.args.design.now c.design.ensures.whole c.design.ensures.few)

pub returns : goal.returns
returns c =
    let d = c.args.design.now in
    let cycles : c.cycles-cycles.result ≡ d.cycles = c.cycles-cycles.ensures.cycles ∙ ap (λ (x : DesignView). x.cycles) c.design.ensures.design in
    let wires : c.as_slice-wires.result.now ≡ d.rows = c.as_slice-wires.ensures.items ∙ c.wire_rows.ensures.rows ∙ ap (λ (x : DesignView). x.rows) c.design-2.ensures.design in
    rw (cycles, wires, rows_unmoved d.rows) at c.keep_rows.ensures
