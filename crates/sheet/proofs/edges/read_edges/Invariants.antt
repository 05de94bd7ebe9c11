use Rattle.sheet.specs.Step.{labels_view}
use Rattle.sheet.proofs.EdgeWalk.{EdgesRead}
use Rattle.sheet.proofs.edges.read_edges.Given as goal

abbrev pub invariant-loop-n : goal.invariant-loop-n
invariant-loop-n l = EdgesRead (labels_view l.labels) l.marks l.edges l.fn.rules.items l.n l.rules.items l.places l.rows
