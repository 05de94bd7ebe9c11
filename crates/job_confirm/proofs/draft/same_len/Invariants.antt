use Rattle.std.proofs.Common.{◌≡◌, take}
use Rattle.job_confirm.proofs.draft.same_len.Given as goal

abbrev pub invariant-loop-place : goal.invariant-loop-place
invariant-loop-place l = take l.place l.text ≡ take l.place l.other
