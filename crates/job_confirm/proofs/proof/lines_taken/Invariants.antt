use Rattle.std.proofs.Common.{◌≡◌}
use Rattle.edge_clauses.specs.Proofs.{IsProving}
use Rattle.job_confirm.proofs.Taken.{IsReading}
use Rattle.job_confirm.proofs.proof.lines_taken.Given as goal

-- the lines lead to the state of the checker of the goal, and they are the first lines of each right proof
abbrev pub invariant-loop-number : goal.invariant-loop-number
invariant-loop-number l = record {
  proving : IsProving l.net (record { check = l.checker; lines = l.lines.items });
  same_goal : l.checker.goal ≡ l.fn.checker.goal;
  reading : IsReading l.net l.fn.checker.goal l.fn.reader.rest.now l._number l.lines.items l.reader.rest.now;
}
