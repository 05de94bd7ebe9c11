use Rattle.std.proofs.Common.{◌≡◌, ◌++◌, take}
use Rattle.std.specs.List.{flat_map}
use Rattle.lint.specs.Periods.{lead_clock}
use Rattle.lint.proofs.clock.push_clocks.Given as goal

abbrev pub invariant-loop-lead : goal.invariant-loop-lead
invariant-loop-lead l = l.clocks.items ≡ l.initial.clocks.items ++ flat_map (lead_clock l.leads) (take l.lead-index l.leads)
