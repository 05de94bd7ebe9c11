use Rattle.std.proofs.Common.{◌≡◌, ◌++◌, take}
use Rattle.lint.specs.Lists.{each_from}
use Rattle.lint.specs.Texts.{netlist_key}
use Rattle.lint.proofs.keys.push_netlist.Given as goal

abbrev pub invariant-loop-key : goal.invariant-loop-key
invariant-loop-key l = l.warnings.items ≡ l.initial.warnings.items ++ each_from netlist_key 0 (take l.key l.stray)
