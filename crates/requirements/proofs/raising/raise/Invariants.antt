use Rattle.std.proofs.Common.{◌≡◌, take}
use Rattle.event_graph.specs.Times.{raised}
use Rattle.requirements.proofs.raising.raise.Given as goal

abbrev pub invariant-loop-event : goal.invariant-loop-event
invariant-loop-event l = l.times ≡ raised (take l.event l.set) l.by l.fn.times
