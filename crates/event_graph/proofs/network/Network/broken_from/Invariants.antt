use Rattle.std.specs.List.{AllWithin}
use Rattle.event_graph.specs.Satisfying.{Holds}
use Rattle.event_graph.proofs.network.Network.broken_from.Given as goal

-- each constraint so far holds
abbrev pub invariant-loop-number : goal.invariant-loop-number
invariant-loop-number l = AllWithin (Holds l.times) l.self.constraints l.fn.start l.number
