use Rattle.std.specs.List.{AllWithin}
use Rattle.branch.specs.Step.Breaking.{MeetsSome}
use Rattle.branch.proofs.distances.Distances.first_broken.Given as goal

-- the times meet some choice edge of each constraint so far
abbrev pub invariant-loop-rule : goal.invariant-loop-rule
invariant-loop-rule l = AllWithin (MeetsSome l.times) l.self 0 l.rule-index
