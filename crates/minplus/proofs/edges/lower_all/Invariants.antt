use Rattle.minplus.specs.Matrix.{cells}
use Rattle.minplus.specs.Step.Edges.{BoundSeparations}
use Rattle.minplus.proofs.Starting.{HoldsConstraintsBelow}
use Rattle.minplus.proofs.edges.lower_all.Given as goal

abbrev pub invariant-loop-constraint : goal.invariant-loop-constraint
invariant-loop-constraint l = record {
  bounds : BoundSeparations l.net l.rows;
  constraints : HoldsConstraintsBelow l.net (cells l.rows) l.constraint;
}
