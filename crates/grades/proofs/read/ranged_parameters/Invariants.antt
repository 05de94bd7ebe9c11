use Rattle.std.proofs.Common.{◌≡◌, [], drop}
use Rattle.itv_base.specs.Reading.{walk}
use Rattle.grades.specs.Grades.{with_parameter}
use Rattle.grades.proofs.read.ranged_parameters.Given as goal

-- from the parameters so far, the parameters that are left lead to what all parameters give
abbrev pub invariant-loop-p : goal.invariant-loop-p
invariant-loop-p l = walk (with_parameter l.g) l.p l.parameters (drop l.p l.written) ≡ walk (with_parameter l.g) 0 [] l.written
