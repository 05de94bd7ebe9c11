use Rattle.std.proofs.Common.{◌≡◌, ◌<◌, All, length, arith, refl, subst}
use Rattle.itv_base.specs.declared.limits.TheConstants.{MAX_CONSTRAINTS}
use Rattle.event_graph.specs.declared.cause.Cause.{Cause}
use Rattle.event_graph.specs.Network.{AreEnds, Constraint, IsConstraint, Net}
use Rattle.event_graph.proofs.Ends.{net_more}
use Rattle.event_graph.proofs.network.Network.push.Goals as goal

pub invariant_of-self-2 : goal.invariant_of-self-2
invariant_of-self-2 c =
    let net : Net = record { events = c.self.inside.events; constraints = c.self.inside.constraints.items } in
    let k : Constraint = record { kind = c.args.kind; target = c.args.target; causes = c.args.causes.now } in
    let events : c.args.self.now.events ≡ c.self.inside.events = rw (← c.self.view_is) refl in
    let room : length net.constraints < MAX_CONSTRAINTS = omega arith in
    let is_constraint : IsConstraint c.self.inside.events k = subst (λ n. IsConstraint n k) events c.requires in
    let ends : All (λ (d : Cause). AreEnds d.range) c.args.causes.now = c.read_ends.ensures in
    rw (c.in_ok-push.ensures.items, c.in_ok-causes.ensures.items) (net_more net k c.self.invariant room is_constraint ends)
