use Rattle.std.proofs.Common.{◌≡◌, ◌++◌, take}
use Rattle.std.specs.List.{flat_map}
use Rattle.compose.specs.Joins.{joins_of_pins}
use Rattle.lint.specs.Leads.{join_leads}
use Rattle.lint.proofs.leads.push_joins.Given as goal

abbrev pub invariant-loop-pin : goal.invariant-loop-pin
invariant-loop-pin l = l.leads.items ≡ l.initial.leads.items ++ flat_map join_leads (joins_of_pins (take l.pin-index l.pin-items))
