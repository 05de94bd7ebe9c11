use Rattle.std.proofs.Common.{◌≤◌, length, sym, subst, arith}
use Rattle.itv_base.specs.declared.limits.TheConstants.{MAX_CAUSES}
use Rattle.event_graph.specs.Network.{Net}
use Rattle.drawn_networks.specs.Drawn.{OriginsFit}
use Rattle.narrow_ends.proofs.Causes.{few_causes}
use Rattle.narrow_ends.proofs.ends.push_ends.Goals as goal

pub overflow_cast-cause-end : goal.overflow_cast-cause-end
overflow_cast-cause-end c =
    let net = c.network.result.now in
    let origins = c.origins.result.now in
    let fit : OriginsFit net origins = subst (λ (n : Net). OriginsFit n origins) (sym c.network.ensures.network) c.origins.ensures.fit in
    let few : length c.get.result.now ≤ MAX_CAUSES = few_causes net origins c.from.result c.get.result.now c.is_whole.ensures.net fit c.get.ensures.item in
    omega (arith, few, c.len-causes.ensures.count)
