use Rattle.std.proofs.Common.{◌≡◌, drop}
use Rattle.std.specs.List.{find}
use Rattle.std.specs.Str.{bytes_eq}
use Rattle.grades.specs.declared.grade.Parameter.{Parameter}
use Rattle.grades.proofs.table.parameter_in.Given as goal

-- the parameters so far have other names
abbrev pub invariant-loop-parameter : goal.invariant-loop-parameter
invariant-loop-parameter l = find (λ (p : Parameter). bytes_eq l.name p.name) (drop l.parameter-index l.parameters) ≡ find (λ (p : Parameter). bytes_eq l.name p.name) l.parameters
