use Rattle.std.proofs.Common.{arith}
use Rattle.trail.proofs.Steps.{depth_below, IsSoundTrail-start}
use Rattle.trail.proofs.trail.Trail.push_level.Goals as goal

pub push_reserved-requires : goal.push_reserved-requires
push_reserved-requires c =
    let t = c.self.inside in
    let few = depth_below t c.args.self.now c.self.view_is c.requires in
    omega (arith, few, t.starts.ok.0, c.self.invariant.start_room)

pub invariant_of-self : goal.invariant_of-self
invariant_of-self c =
    let t = c.self.inside in
    let few = depth_below t c.args.self.now c.self.view_is c.requires in
    let items = rw (c.len.ensures, c.len-2.ensures) at c.push_reserved.ensures.items in
    IsSoundTrail-start t c.self.invariant c.push_reserved.new.self items c.push_reserved.ensures.capacity few
