use Rattle.std.proofs.Common.{◌≡◌, ◌∙◌, ap}
use Rattle.std.proofs.lemmas.List.{get_or_default}
use Rattle.branch.specs.Step.Breaking.{IsEdgeBroken}
use Rattle.branch.specs.Splits.{SplittableView}
use Rattle.branch.proofs.ListWalks.{within_more}
use Rattle.branch.proofs.splittable.Splittable.is_broken.Goals as goal

pub loop-edge-preserved : goal.loop-edge-preserved
loop-edge-preserved c =
    let same : c.deref-edge-items.result.now ≡ c.args.self.now.edges = c.deref-edge-items.ensures.value ∙ ap (λ (s : SplittableView). s.edges) c.self.view_is in
    within_more (IsEdgeBroken c.args.times.now) c.args.self.now.edges c.deref-edge-items.result.now c.loop-edge.edge-index _ same c.loop-edge.invariant c.loop-edge-test.true
    (get_or_default c.deref-edge-items.result.now c.loop-edge.edge-index _ _ c.loop-edge-test.true) c.if-not-is_broken.ensures
