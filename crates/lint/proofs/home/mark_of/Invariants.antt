use Rattle.std.proofs.Common.{◌≡◌, ◌≤◌, drop}
use Rattle.lint.specs.Leads.{mark_from, mark_of}
use Rattle.lint.proofs.home.mark_of.Given as goal

abbrev pub invariant-loop-part : goal.invariant-loop-part
invariant-loop-part l = record {
  within : l.part ≤ l.parts;
  held : mark_from l.part (drop l.part l.design.sheets) l.rest ≡ mark_of l.design.sheets l.number;
}
