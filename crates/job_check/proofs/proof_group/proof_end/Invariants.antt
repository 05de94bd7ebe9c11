use Rattle.std.proofs.Common.{◌≡◌, ◌+◌, length, drop}
use Rattle.job_check.specs.Step.Groups.{proof_front}
use Rattle.job_check.proofs.proof_group.proof_end.Given as goal

abbrev pub invariant-loop-number : goal.invariant-loop-number
invariant-loop-number l = l.start + length (proof_front (drop l.start l.items)) ≡ l.number + length (proof_front (drop l.number l.items))
