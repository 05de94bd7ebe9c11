use Rattle.std.proofs.Common.{◌∙◌}
use Rattle.unroll.proofs.ReachLists.{parts_beyond, wires_below}
use Rattle.unroll.proofs.reach.reaches_no_further.Goals as goal

pub returns-then-parts_reach_no_further : goal.returns-then-parts_reach_no_further
returns-then-parts_reach_no_further c = record {
  reaches = wires_below c.args.design.now.cycles c.cycles.result c.args.design.now c.as_slice.result.now c.rows_reach_no_further.result c.cycles.ensures.cycles
      (c.as_slice.ensures.items ∙ c.wire_rows.ensures.rows) c.if-parts_reach_no_further.ensures c.rows_reach_no_further.ensures;
}

pub returns-else-parts_reach_no_further : goal.returns-else-parts_reach_no_further
returns-else-parts_reach_no_further c = record {
  reaches = parts_beyond c.args.design.now.cycles c.args.design.now c.parts_reach_no_further.result c.if-parts_reach_no_further.false c.if-parts_reach_no_further.ensures;
}
