use Rattle.std.specs.List.{AllWithin}
use Rattle.branch.specs.Step.Breaking.{IsEdgeBroken}
use Rattle.branch.proofs.splittable.Splittable.is_broken.Given as goal

-- the times break the edges so far
abbrev pub invariant-loop-edge : goal.invariant-loop-edge
invariant-loop-edge l = AllWithin (IsEdgeBroken l.times) l.self.edges 0 l.edge-index
