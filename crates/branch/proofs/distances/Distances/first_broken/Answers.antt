use Rattle.std.proofs.Common.{◌≡◌, ◌∙◌}
use Rattle.branch.specs.Step.Breaking.{MeetsSome}
use Rattle.branch.proofs.ListWalks.{within_more}
use Rattle.branch.proofs.distances.Distances.first_broken.Goals as goal

pub loop-rule-preserved : goal.loop-rule-preserved
loop-rule-preserved c =
    let same : c.deref-rule-items.result.now ≡ c.args.self.now = c.deref-rule-items.ensures.value ∙ c.self.view_is in
    within_more (MeetsSome c.args.times.now) c.args.self.now c.deref-rule-items.result.now c.loop-rule.rule-index c.rule-item.result same c.loop-rule.invariant c.loop-rule-test.true c.rule-item.is c.if-is_broken.ensures
