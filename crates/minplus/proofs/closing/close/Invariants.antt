use Rattle.std.proofs.Common.{◌≡◌, length}
use Rattle.minplus.specs.Matrix.{IsSquare, cells}
use Rattle.minplus.specs.Step.PivotStage.{PivotStage}
use Rattle.minplus.proofs.closing.close.Given as goal

abbrev pub invariant-loop-event : goal.invariant-loop-event
invariant-loop-event l = record {
  square : IsSquare (length l.fn.rows) l.rows;
  count : length l.rows ≡ length l.fn.rows;
  room : length l.through ≡ length l.fn.rows;
  stage : PivotStage l.net (cells l.fn.rows) l.event (cells l.rows);
}
