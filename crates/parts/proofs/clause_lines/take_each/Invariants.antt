use Rattle.edge_clauses.specs.Checking.{IsChecking}
use Rattle.parts.proofs.clause_lines.take_each.Given as goal

-- lines lead to the state of the checker
abbrev pub invariant-loop-row : goal.invariant-loop-row
invariant-loop-row l = IsChecking l.net l.checker
