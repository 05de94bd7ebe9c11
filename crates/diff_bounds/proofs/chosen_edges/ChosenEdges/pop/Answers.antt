use Rattle.diff_bounds.proofs.Linking.{popped_on}
use Rattle.diff_bounds.proofs.chosen_edges.ChosenEdges.pop.Goals as goal

pub invariant_of-self : goal.invariant_of-self
invariant_of-self c = record {
  linked = popped_on c.self.inside.arcs.items c.pop.new.self.items c.self.inside.earlier.items c.pop-in-Some.new.self.items c.self.inside.latest.items c.in-Some.arc c.unwrap.result
      c.self.invariant.linked c.in-Some.ensures.items (rw c.unwrap.ensures at c.pop-in-Some.ensures.items);
  arcs_room = rw c.pop.ensures.capacity c.self.invariant.arcs_room;
  earlier_room = rw c.pop-in-Some.ensures.capacity c.self.invariant.earlier_room;
}
