use Rattle.minplus.specs.Step.Edges.{AreEmptyRows}
use Rattle.minplus.proofs.edges.empty_rows.Given as goal

abbrev pub invariant-loop-own : goal.invariant-loop-own
invariant-loop-own l = AreEmptyRows l.events l.own l.rows.items
