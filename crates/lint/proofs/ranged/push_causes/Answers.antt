use Rattle.std.proofs.Common.{◌++◌, ap, take_all, ◌∙◌, arith}
use Rattle.std.specs.List.{flat_map}
use Rattle.lint.specs.Units.{source_ranged}
use Rattle.lint.proofs.EachLists.{flat_more}
use Rattle.lint.proofs.ranged.push_causes.Goals as goal

pub loop-cause-preserved : goal.loop-cause-preserved
loop-cause-preserved c =
    flat_more (source_ranged c.args.part) c.args.causes.now c.loop-cause.cause-index c.cause-item.result c.args.ranges.now.items c.loop-cause.ranges.items c.push_cause.new.ranges.items c.loop-cause-test.true c.cause-item.is c.loop-cause.invariant
    c.in_ok-push_cause.ensures.pushed

pub returns : goal.returns
returns c = record {
  pushed = c.loop-cause.invariant ∙ ap (λ xs. c.args.ranges.now.items ++ flat_map (source_ranged c.args.part) xs) (take_all c.loop-cause.cause-index c.args.causes.now (omega (arith, c.loop-cause-test.false)));
}
