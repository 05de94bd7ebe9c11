use Rattle.std.proofs.Common.{arith, rules, sym}
use Rattle.std.proofs.lemmas.Int.{ints}
use Rattle.event_graph.specs.Edges.{IsAlways}
use Rattle.diff_bounds.specs.Arcs.{IsArc}
use Rattle.diff_bounds.specs.Step.Listing.{Grows, HasName}
use Rattle.diff_bounds.proofs.OutLists.{pushed}
use Rattle.diff_bounds.proofs.out_edges.push_edge.Goals as goal
use Rattle.diff_bounds.proofs.out_edges.push_edge.Goals.{In_ok-push_arc}

both : (c : In_ok-push_arc) → Grows c.args.net.now c.args.lists.now c.push_arc.new.lists × HasName c.args.net.now c.push_arc.new.lists c.args.name
both c =
    let is_always : IsAlways c.args.net.now c.args.name = search rules in
    let found = c.in-Some.ensures in
    let arc : IsArc c.args.net.now (record { name = c.args.name; edge = c.in-Some.edge }) =
    record { is = sym found.edge; within = record { from = found.from; to = found.to; low = omega (arith, ints, found.weight.0); high = omega (arith, ints, found.weight.1) } } in
    pushed c.args.net.now c.args.lists.now c.push_arc.new.lists c.args.name c.in-Some.edge c.requires is_always arc c.in_ok-push_arc.ensures

pub returns-in_ok-push_arc-clause-grows : goal.returns-in_ok-push_arc-clause-grows
returns-in_ok-push_arc-clause-grows c = (both c).0

pub returns-in_ok-push_arc-clause-edge : goal.returns-in_ok-push_arc-clause-edge
returns-in_ok-push_arc-clause-edge c = (both c).1
