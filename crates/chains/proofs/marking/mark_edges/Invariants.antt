use Rattle.std.proofs.Common.{[], ◌∷◌, take}
use Rattle.event_graph.specs.Proof.{Path}
use Rattle.chains.specs.Named.{HasMarked}
use Rattle.chains.proofs.marking.mark_edges.Given as goal

-- the edges so far are marked
abbrev pub invariant-loop-name : goal.invariant-loop-name
invariant-loop-name l = HasMarked l.fn.marks (Path (take l.name-index l.edges) ∷ []) l.marks
