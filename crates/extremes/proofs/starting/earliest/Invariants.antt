use Rattle.std.proofs.Common.{◌<◌, length}
use Rattle.extremes.proofs.starting.earliest.Given as goal

-- the event with the least time so far is there
abbrev pub invariant-loop-event : goal.invariant-loop-event
invariant-loop-event l = l.first < length l.times
