use Rattle.std.proofs.Common.{◌≡◌, ◌++◌, take}
use Rattle.std.specs.Prelude.{map}
use Rattle.job_lint.specs.declared.line.Line.TheVariants.{Never}
use Rattle.job_lint.proofs.lines.push_places.Given as goal

-- the lines of the first places
abbrev pub invariant-loop-place : goal.invariant-loop-place
invariant-loop-place l = l.lines.items ≡ l.initial.lines.items ++ map Never (take l.place-index l.places)
