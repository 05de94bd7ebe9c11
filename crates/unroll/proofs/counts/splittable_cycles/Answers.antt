use Rattle.std.proofs.Common.{◌∙◌, ap, length, sym}
use Rattle.unroll.proofs.CountLists.{splittable_rule}
use Rattle.unroll.proofs.counts.splittable_cycles.Goals as goal

pub returns-then-is_splittable-clause-count : goal.returns-then-is_splittable-clause-count
returns-then-is_splittable-clause-count c =
    c.rule_cycles.ensures.count
    ∙ sym (splittable_rule c.args.cycles c.args.rule.now c.kind.result c.len.result c.is_splittable.result c.kind.ensures.kind (c.len.ensures.count ∙ ap length c.causes.ensures.causes) c.is_splittable.ensures c.if-is_splittable.true)
