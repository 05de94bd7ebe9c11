use Rattle.std.proofs.Common.{◌≡◌, take}
use Rattle.std.specs.List.{flat_map}
use Rattle.job_lint.specs.Lines.{drawing_line}
use Rattle.job_lint.proofs.lines.drawing_lines.Given as goal

-- the lines of the first warnings
abbrev pub invariant-loop-warning : goal.invariant-loop-warning
invariant-loop-warning l = l.lines.items ≡ flat_map (drawing_line l.design l.drawn l.narrow) (take l.warning-index l.warnings)
