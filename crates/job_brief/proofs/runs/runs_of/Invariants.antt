use Rattle.std.proofs.Common.{◌≡◌, ◌<◌, [], All, drop, length}
use Rattle.job_brief.specs.declared.run_place.RunPlace.{RunPlace}
use Rattle.job_brief.specs.Step.{fold_onto}
use Rattle.job_brief.proofs.runs.runs_of.Given as goal

-- the other rows are to be put to the runs of the first rows
abbrev pub invariant-loop-at : goal.invariant-loop-at
invariant-loop-at l = record {
  left : fold_onto l.drawn l.found l.runs.items (drop l.at l.rows) ≡ fold_onto l.drawn l.found [] l.rows;
  within : All (λ (run : RunPlace). run.last < length l.found) l.runs.items;
}
