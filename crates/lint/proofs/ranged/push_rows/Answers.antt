use Rattle.std.proofs.Common.{◌++◌, ap, take_all, ◌∙◌, arith}
use Rattle.std.specs.List.{flat_map}
use Rattle.lint.specs.Units.{row_ranged}
use Rattle.lint.proofs.EachLists.{flat_more}
use Rattle.lint.proofs.ranged.push_rows.Goals as goal

pub loop-row-preserved : goal.loop-row-preserved
loop-row-preserved c =
    flat_more (row_ranged c.args.part) c.args.rows.now c.loop-row.row-index c.row-item.result c.args.ranges.now.items c.loop-row.ranges.items c.push_row.new.ranges.items c.loop-row-test.true c.row-item.is c.loop-row.invariant
    c.in_ok-push_row.ensures.pushed

pub returns : goal.returns
returns c = record {
  pushed = c.loop-row.invariant ∙ ap (λ xs. c.args.ranges.now.items ++ flat_map (row_ranged c.args.part) xs) (take_all c.loop-row.row-index c.args.rows.now (omega (arith, c.loop-row-test.false)));
}
