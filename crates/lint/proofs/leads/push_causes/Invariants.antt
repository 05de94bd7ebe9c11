use Rattle.std.proofs.Common.{◌≡◌, ◌++◌, take}
use Rattle.std.specs.List.{flat_map}
use Rattle.lint.specs.Leads.{cause_leads}
use Rattle.lint.proofs.leads.push_causes.Given as goal

abbrev pub invariant-loop-cause : goal.invariant-loop-cause
invariant-loop-cause l = l.leads.items ≡ l.initial.leads.items ++ flat_map (cause_leads l.design.sheets l.home l.kind l.to) (take l.cause-index l.causes)
