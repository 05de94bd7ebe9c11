use Rattle.std.proofs.Common.{◌++◌, ap, take_all, ◌∙◌, arith}
use Rattle.std.specs.List.{flat_map}
use Rattle.lint.specs.Never.{row_never}
use Rattle.lint.proofs.EachLists.{flat_more}
use Rattle.lint.proofs.never.push_rows.Goals as goal

pub loop-row-preserved : goal.loop-row-preserved
loop-row-preserved c =
    flat_more (row_never c.args.last c.args.part) c.args.rows.now c.loop-row.row-index c.row-item.result c.args.places.now.items c.loop-row.places.items c.push_row.new.places.items c.loop-row-test.true c.row-item.is c.loop-row.invariant
    c.in_ok-push_row.ensures.pushed

pub returns : goal.returns
returns c = record {
  pushed = c.loop-row.invariant ∙ ap (λ xs. c.args.places.now.items ++ flat_map (row_never c.args.last c.args.part) xs) (take_all c.loop-row.row-index c.args.rows.now (omega (arith, c.loop-row-test.false)));
}
