use Rattle.std.proofs.Common.{◌≡◌, [], ◌∷◌, take}
use Rattle.event_graph.specs.Proof.{ProofLeaves}
use Rattle.cert_checker.specs.Checking.{IsProofCheckerFor, goal_view, open_cases}
use Rattle.whatif.proofs.proving.is_proof.Given as goal

-- the lines so far are read, and the checker stands where they lead
abbrev pub invariant-loop-k : goal.invariant-loop-k
invariant-loop-k l = (l.checker.goal ≡ goal_view l.fn.goal) × IsProofCheckerFor l.net l.checker
    × ProofLeaves l.net (goal_view l.fn.goal) ([] ∷ []) (take l.k l.proof.lines) (open_cases l.net l.checker)
