use Rattle.std.proofs.Common.{◌≡◌, ◌++◌, take}
use Rattle.lint.specs.Leads.{sheet_leads}
use Rattle.lint.specs.Lists.{each_from}
use Rattle.lint.proofs.leads.push_sheets.Given as goal

abbrev pub invariant-loop-part : goal.invariant-loop-part
invariant-loop-part l = l.leads.items ≡ l.initial.leads.items ++ each_from (sheet_leads l.design.sheets) 0 (take l.part l.design.sheets)
