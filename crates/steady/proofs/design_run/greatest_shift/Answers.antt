use Rattle.std.proofs.Common.{◌≤◌, subst, sym}
use Rattle.itv_base.specs.declared.limits.TheConstants.{MAX_SHIFT}
use Rattle.steady.proofs.Reaching.{shift_more}
use Rattle.steady.proofs.design_run.greatest_shift.Goals as goal

pub loop-row-preserved : goal.loop-row-preserved
loop-row-preserved c =
    let few : c.row-item.result.shift ≤ MAX_SHIFT = subst (λ row. row.shift ≤ MAX_SHIFT) (sym c.row-item.is) (c.requires.shifts c.loop-row.row-index c.row-item.result c.loop-row-test.true) in
    shift_more c.args.rows.now c.loop-row.row-index c.loop-row.most c.max-most.result c.row-item.result c.loop-row-test.true c.row-item.is few c.max-most.ensures c.loop-row.invariant
