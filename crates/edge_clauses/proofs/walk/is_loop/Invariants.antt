use Rattle.std.proofs.Common.{pos, take}
use Rattle.edge_clauses.specs.Lines.{Walks}
use Rattle.edge_clauses.proofs.walk.is_loop.Given as goal

-- the steps so far lead to the walk
abbrev pub invariant-loop-number : goal.invariant-loop-number
invariant-loop-number l = Walks l.net l.kept l.event l.shown (record { at = l.event; sum = pos 0 }) (take l.number l.steps) l.walk
