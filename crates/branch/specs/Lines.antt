-- Lines that a search writes, as they are read.
use Rattle.std.specs.Prelude.{List, [], ◌∷◌}
use Rattle.event_graph.specs.Network.{Net}
use Rattle.event_graph.specs.Proof.{Case, ProofGoal, ProofLine, ProofLeaves}

-- reading accepts each of the lines; they may be a whole proof or the front of one
abbrev pub IsAccepted : Net → ProofGoal → List ProofLine → Type 0
IsAccepted net goal lines = (left : List Case) × ProofLeaves net goal ([] ∷ []) lines left
