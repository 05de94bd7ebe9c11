use Rattle.std.proofs.Common.{◌≡◌, take}
use Rattle.std.specs.List.{flat_map}
use Rattle.job_lint.specs.Lines.{narrow_line}
use Rattle.job_lint.proofs.lines.end_lines.Given as goal

-- the lines of the first ends
abbrev pub invariant-loop-end : goal.invariant-loop-end
invariant-loop-end l = l.lines.items ≡ flat_map (narrow_line l.drawn) (take l.end-index l.ends)
