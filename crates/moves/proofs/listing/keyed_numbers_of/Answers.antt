use Rattle.std.proofs.Common.{◌<◌, ◌≤◌, length, ap, arith}
use Rattle.event_graph.specs.Network.{Net}
use Rattle.moves.proofs.Seen.{numbers_more, numbers_whole}
use Rattle.moves.proofs.listing.keyed_numbers_of.Goals as goal

pub loop-constraint-preserved : goal.loop-constraint-preserved
loop-constraint-preserved c =
    let same = ap (λ (n : Net). length n.constraints) c.network.ensures.network in
    let within : c.loop-constraint.constraint < length c.args.drawn.now.net.constraints = omega (arith, c.loop-constraint-test.true, c.len-constraint-end.ensures.count, same) in
    record {
      numbers = numbers_more c.args.drawn.now c.loop-constraint.constraint c.loop-constraint.seen.items c.add_causes.new.seen.items c.read_drawn.ensures.fit within
          c.loop-constraint.invariant.numbers c.in_ok-add_causes.ensures.added;
      keys = c.in_ok-add_causes.ensures.keys;
    }

pub returns : goal.returns
returns c =
    let same = ap (λ (n : Net). length n.constraints) c.network.ensures.network in
    let all : length c.args.drawn.now.net.constraints ≤ c.loop-constraint.constraint = omega (arith, c.loop-constraint-test.false, c.len-constraint-end.ensures.count, same) in
    record {
      numbers = numbers_whole c.args.drawn.now c.loop-constraint.constraint c.loop-constraint.seen.items c.read_drawn.ensures.fit all c.loop-constraint.invariant.numbers;
      keys = c.loop-constraint.invariant.keys;
    }
