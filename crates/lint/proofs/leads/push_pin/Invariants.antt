use Rattle.std.proofs.Common.{◌≡◌, ◌++◌}
use Rattle.std.specs.List.{flat_map}
use Rattle.compose.specs.Joins.{first_joins}
use Rattle.lint.specs.Leads.{join_leads}
use Rattle.lint.proofs.leads.push_pin.Given as goal

abbrev pub invariant-loop-k : goal.invariant-loop-k
invariant-loop-k l = l.leads.items ≡ l.initial.leads.items ++ flat_map join_leads (first_joins l.pin l.k)
