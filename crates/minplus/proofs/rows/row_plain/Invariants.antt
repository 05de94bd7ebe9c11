use Rattle.minplus.specs.Step.Rows.{ImprovesPart}
use Rattle.minplus.proofs.rows.row_plain.Given as goal

abbrev pub invariant-loop-place : goal.invariant-loop-place
invariant-loop-place l = ImprovesPart l.w 0 l.place l.initial.dst l.src l.dst
