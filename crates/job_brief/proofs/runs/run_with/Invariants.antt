use Rattle.std.proofs.Common.{◌≡◌, ◌++◌, drop, take}
use Rattle.job_brief.specs.Step.{fold_at}
use Rattle.job_brief.proofs.runs.run_with.Given as goal

-- the row goes on with none of the first runs
abbrev pub invariant-loop-at : goal.invariant-loop-at
invariant-loop-at l = take l.at l.runs ++ fold_at l.drawn l.found l.row (drop l.at l.runs) ≡ fold_at l.drawn l.found l.row l.runs
