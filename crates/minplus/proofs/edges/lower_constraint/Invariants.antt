use Rattle.minplus.specs.Matrix.{cells}
use Rattle.minplus.specs.Step.Edges.{BoundSeparations, NoneRose}
use Rattle.minplus.proofs.Starting.{HoldsCausesBelow}
use Rattle.minplus.proofs.edges.lower_constraint.Given as goal

abbrev pub invariant-loop-cause : goal.invariant-loop-cause
invariant-loop-cause l = record {
  bounds : BoundSeparations l.net l.rows;
  falls : NoneRose (cells l.initial.rows) (cells l.rows);
  causes : HoldsCausesBelow l.net (cells l.rows) l.constraint l.cause;
}
