use Rattle.std.proofs.Common.{◌≡◌, ◌++◌, take}
use Rattle.design_reading.proofs.files.push_all.Given as goal

abbrev pub invariant-loop-k : goal.invariant-loop-k
invariant-loop-k l = l.names ≡ l.fn.names ++ take l.k l.others
