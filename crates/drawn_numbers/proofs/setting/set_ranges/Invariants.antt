use Rattle.std.proofs.Common.{◌≡◌, take}
use Rattle.drawn_numbers.specs.Numbers.{with_ranges}
use Rattle.drawn_numbers.proofs.setting.set_ranges.Given as goal

-- the causes so far have the range
abbrev pub invariant-loop-k : goal.invariant-loop-k
invariant-loop-k l = l.net ≡ with_ranges l.fn.net (take l.k l.causes) l.range
