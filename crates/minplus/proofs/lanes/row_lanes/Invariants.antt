use Rattle.std.proofs.Common.{◌*◌}
use Rattle.minplus.specs.Step.Rows.{ImprovesPart}
use Rattle.minplus.proofs.lanes.row_lanes.Given as goal

abbrev pub invariant-loop-vector : goal.invariant-loop-vector
invariant-loop-vector l = ImprovesPart l.w 0 (l.vector * 8) l.fn.dst l.src l.dst

abbrev pub invariant-loop-place : goal.invariant-loop-place
invariant-loop-place l = ImprovesPart l.w 0 l.place l.fn.dst l.src l.dst
