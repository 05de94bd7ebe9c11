use Rattle.std.proofs.Common.{◌≡◌, drop}
use Rattle.redraw.specs.Drawing.{number_in}
use Rattle.redraw.proofs.write.number_of.Given as goal

-- the event is not among the ones that were looked at
abbrev pub invariant-loop-stand : goal.invariant-loop-stand
invariant-loop-stand l = number_in l.stands l.event ≡ number_in (drop l.stand-index l.stands) l.event
