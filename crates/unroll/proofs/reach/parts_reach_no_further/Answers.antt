use Rattle.std.proofs.Common.{◌∙◌, ap, length, arith}
use Rattle.unroll.proofs.ReachLists.{all_below, one_beyond, one_more_below}
use Rattle.unroll.proofs.reach.parts_reach_no_further.Goals as goal

pub returns-then-not-rows_reach_no_further : goal.returns-then-not-rows_reach_no_further
returns-then-not-rows_reach_no_further c =
    one_beyond c.args.design.now.cycles c.cycles-cycles.result c.cycles-cycles.ensures.cycles c.args.design.now.sheets c.loop-part.part c.sheet_of.result.now c.as_slice.result.now c.sheet_of.ensures.sheet
    (c.as_slice.ensures.items ∙ c.rows.ensures.rows) c.if-not-rows_reach_no_further.ensures

pub loop-part-preserved : goal.loop-part-preserved
loop-part-preserved c =
    one_more_below c.args.design.now.cycles c.cycles-cycles.result c.cycles-cycles.ensures.cycles c.args.design.now.sheets c.loop-part.part c.sheet_of.result.now c.as_slice.result.now c.sheet_of.ensures.sheet
    (c.as_slice.ensures.items ∙ c.rows.ensures.rows) c.if-not-rows_reach_no_further.ensures c.loop-part.invariant

pub returns : goal.returns
returns c =
    let count = c.len-parts.ensures.count ∙ ap length c.parts.ensures.parts ∙ c.cycles-cycles.ensures.design.parts in
    all_below c.args.design.now.cycles c.loop-part.part c.args.design.now.sheets (omega (arith, c.loop-part-test.false, count)) c.loop-part.invariant
