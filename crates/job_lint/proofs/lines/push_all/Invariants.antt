use Rattle.std.proofs.Common.{◌≡◌, ◌++◌, take}
use Rattle.job_lint.proofs.lines.push_all.Given as goal

-- the first lines are copied
abbrev pub invariant-loop-line : goal.invariant-loop-line
invariant-loop-line l = l.lines.items ≡ l.initial.lines.items ++ take l.line-index l.more
