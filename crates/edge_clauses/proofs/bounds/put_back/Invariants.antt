use Rattle.std.proofs.Common.{◌≡◌, ◌-◌, take}
use Rattle.edge_clauses.specs.Step.Bounding.{undone}
use Rattle.edge_clauses.proofs.bounds.put_back.Given as goal

-- the changes that are left to be undone lead to what all of them lead to
abbrev pub invariant-loop-done : goal.invariant-loop-done
invariant-loop-done l = undone (take (l.count - l.done) l.changes) (record { up = l.up; low = l.low }) ≡ undone l.changes (record { up = l.initial.up; low = l.initial.low })
