use Rattle.std.proofs.Common.{ap, ◌∙◌}
use Rattle.trail.specs.Stack.{TrailView, with_edge}
use Rattle.trail.proofs.Steps.{edges_below, IsSoundTrail-edge, stack_in-edge}
use Rattle.trail.proofs.trail.Trail.add_edge.Goals as goal

pub invariant_of-self : goal.invariant_of-self
invariant_of-self c =
    let few = edges_below c.self.inside c.args.self.now c.self.view_is c.requires in
    IsSoundTrail-edge c.self.inside c.self.invariant c.push_reserved.new.self c.args.edge c.push_reserved.ensures.items c.push_reserved.ensures.capacity few

pub returns : goal.returns
returns c =
    stack_in-edge c.self.inside c.self.invariant c.push_reserved.new.self c.args.edge c.push_reserved.ensures.items ∙ ap (λ (g : TrailView). record g { current = with_edge g.current c.args.edge }) c.self.view_is
