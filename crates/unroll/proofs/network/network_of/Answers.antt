use Rattle.std.proofs.Common.{ℕ, List, ap, length, arith}
use Rattle.std.specs.List.{filter_map}
use Rattle.event_graph.specs.Network.{Constraint, Net}
use Rattle.unroll.specs.Cycles.{constraint_in}
use Rattle.unroll.proofs.CycleLists.{in_cycles_room}
use Rattle.unroll.proofs.network.network_of.Goals as goal

pub push_cycle-requires-clause-room : goal.push_cycle-requires-clause-room
push_cycle-requires-clause-room c =
    let each : ℕ → List Constraint = λ cycle. filter_map (constraint_in c.args.marks cycle) c.args.rules.now in
    omega (arith, ap (λ (net : Net). length net.constraints) c.loop-cycle.invariant, in_cycles_room each c.loop-cycle.cycle c.args.cycles c.loop-cycle-test.true, c.requires.room)
