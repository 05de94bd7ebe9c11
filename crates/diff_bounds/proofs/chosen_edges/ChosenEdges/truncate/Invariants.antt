use Rattle.std.proofs.Common.{◌≡◌, length, take}
use Rattle.diff_bounds.proofs.chosen_edges.ChosenEdges.truncate.Given as goal

abbrev pub invariant-loop-self : goal.invariant-loop-self
invariant-loop-self l = record {
  same : l.self ≡ record l.fn.self { arcs = l.self.arcs };
  kept : take l.count l.self.arcs ≡ take l.count l.fn.self.arcs;
}

abbrev pub decreases-loop-self : goal.decreases-loop-self
decreases-loop-self l = length l.self.arcs
