use Rattle.std.proofs.Common.{◌-◌}
use Rattle.margins.proofs.free.+open_between.Given as goal

abbrev pub decreases-open_between : goal.decreases-open_between
decreases-open_between l = l.end - l.start
