use Rattle.std.proofs.Common.{◌≡◌, vec_len}
use Rattle.spans.proofs.counts.groups_of.Given as goal

abbrev pub invariant-loop-event : goal.invariant-loop-event
invariant-loop-event l = record { group : vec_len l.group ≡ l.event; count : vec_len l.count ≡ l.event }
