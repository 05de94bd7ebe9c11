use Rattle.std.proofs.Common.{◌≡◌, All, length}
use Rattle.spans.specs.Step.{IsCount}
use Rattle.spans.proofs.counts.counts_within.Given as goal

-- a count for each event so far
abbrev pub invariant-loop-event : goal.invariant-loop-event
invariant-loop-event l = record { number : length l.counts.items ≡ l.event; each : All IsCount l.counts.items }
