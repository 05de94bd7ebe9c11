use Rattle.std.proofs.Common.{◌≡◌, length}
use Rattle.event_graph.proofs.decisions.Decisions.clear.Given as goal

-- the room of the table stays as it is
abbrev pub invariant-loop : goal.invariant-loop
invariant-loop l = l.self.room ≡ l.fn.self.room

abbrev pub decreases-loop : goal.decreases-loop
decreases-loop l = length l.self.chosen
