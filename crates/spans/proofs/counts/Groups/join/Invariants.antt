use Rattle.std.proofs.Common.{◌≡◌, vec_len}
use Rattle.spans.proofs.counts.Groups.join.Given as goal

-- there are as many events as before
abbrev pub invariant-loop-event : goal.invariant-loop-event
invariant-loop-event l = vec_len l.self.group ≡ l.event-end
