use Rattle.lint.specs.Units.{ranged_unit, sizes_of}
use Rattle.lint.proofs.EachLists.{flat_more}
use Rattle.lint.proofs.Middle.{tiny_are}
use Rattle.lint.proofs.units.push_among.Goals as goal

pub loop-ranged-preserved : goal.loop-ranged-preserved
loop-ranged-preserved c =
    flat_more (ranged_unit c.args.sizes.now) c.args.ranges.now c.loop-ranged.ranged-index c.ranged-item.result c.args.warnings.now.items c.loop-ranged.warnings.items c.push_where.new.warnings.items
    c.loop-ranged-test.true c.ranged-item.is c.loop-ranged.invariant
    (rw (c.has_tiny.ensures, tiny_are c.args.sizes.now c.middle_of-middle.result c.middle_of-middle.ensures (sizes_of c.ranged-item.result)) at c.in_ok-push_where.ensures.pushed)
