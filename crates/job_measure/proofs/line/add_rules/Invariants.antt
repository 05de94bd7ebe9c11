use Rattle.std.proofs.Common.{◌≡◌, ◌++◌, [], drop, take}
use Rattle.job_measure.specs.Lines.{rule_lines}
use Rattle.job_measure.proofs.line.add_rules.Given as goal

-- the lines so far, before those that are left
abbrev pub invariant-loop-k : goal.invariant-loop-k
invariant-loop-k l =
    l.lines.items ++ rule_lines l.within l.runs l.all (take l.k l.all) (drop l.k l.all) ≡ l.fn.lines.items ++ rule_lines l.within l.runs l.all [] l.all
