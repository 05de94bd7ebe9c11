use Rattle.std.proofs.Common.{◌∙◌, ◌<◌, length}
use Rattle.diff_bounds.proofs.Linking.{pushed_on}
use Rattle.diff_bounds.proofs.chosen_edges.ChosenEdges.push.Goals as goal

pub invariant_of-self : goal.invariant_of-self
invariant_of-self c =
    let within : c.args.arc.edge.from.0 < length c.self.inside.latest.items = rw (← c.self.view_is) at c.requires.start in
    record {
      linked = pushed_on c.self.inside.arcs.items c.push_reserved.new.self.items c.self.inside.earlier.items c.push_reserved-2.new.self.items c.self.inside.latest.items c.args.arc c.index.result.now c.len-place.result
          c.self.invariant.linked within c.push_reserved.ensures.items c.push_reserved-2.ensures.items c.index.ensures (c.len-place.ensures ∙ c.self.inside.arcs.ok.0);
      arcs_room = rw c.push_reserved.ensures.capacity c.self.invariant.arcs_room;
      earlier_room = rw c.push_reserved-2.ensures.capacity c.self.invariant.earlier_room;
    }
