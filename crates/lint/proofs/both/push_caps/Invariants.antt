use Rattle.std.proofs.Common.{◌≡◌, [], ◌++◌, take}
use Rattle.lint.specs.Lists.{each_behind}
use Rattle.lint.specs.Step.{AreFirstTwo, cap_both}
use Rattle.lint.proofs.both.push_caps.Given as goal

abbrev pub invariant-loop-cap : goal.invariant-loop-cap
invariant-loop-cap l = (l.warnings.items ≡ l.initial.warnings.items ++ each_behind cap_both [] (take l.cap-index l.caps)) × AreFirstTwo l.tables (take l.cap-index l.caps)
