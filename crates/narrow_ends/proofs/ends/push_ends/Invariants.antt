use Rattle.std.proofs.Common.{◌≡◌, ◌++◌, All}
use Rattle.narrow_ends.specs.Ends.{ends_below_cause}
use Rattle.narrow_ends.specs.Step.{HasEnd}
use Rattle.narrow_ends.proofs.ends.push_ends.Given as goal

-- the ends of the causes so far
abbrev pub invariant-loop-cause : goal.invariant-loop-cause
invariant-loop-cause l = record {
  ends : l.names.items ≡ l.fn.names.items ++ ends_below_cause l.drawn l.constraint l.cause;
  there : All (HasEnd l.drawn) l.names.items;
}
