use Rattle.std.proofs.Common.{◌≡◌}
use Rattle.job_lint.proofs.driven_periods.copied.Given as goal

-- the copy has the events of the network
abbrev pub invariant-loop-number : goal.invariant-loop-number
invariant-loop-number l = l.copy.events ≡ l.net.events
