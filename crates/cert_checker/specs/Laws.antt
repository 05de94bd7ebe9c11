-- Laws of the faults of lines.
use Rattle.std.specs.Prelude.{◌≡◌, ◌↔◌, ◌++◌, List, [], ◌∷◌, None}
use Rattle.event_graph.specs.Network.{Net}
use Rattle.event_graph.specs.Proof.{Case, ProofGoal, ProofLine, ProofLeaves}
use Rattle.cert_checker.specs.Faults.{behind_line, fault_of_line}

-- the reading of a proof accepts a next line if and only if the line has no fault, and then the line leads to the cases after it
abbrev pub LinesAreReadOneByOne : Type 0
LinesAreReadOneByOne = (net : Net) (goal : ProofGoal) (cases : List Case) (line : ProofLine) (lines : List ProofLine) (left : List Case)
    → (ProofLeaves net goal cases (line ∷ lines) left ↔ ((fault_of_line net goal cases line ≡ None) × ProofLeaves net goal (behind_line net cases line) lines left))

-- after lines that were read, one more line is read if and only if it has no fault, and then it leads to the cases after it
abbrev pub NoFaultIsRead : Type 0
NoFaultIsRead = (net : Net) (goal : ProofGoal) (lines : List ProofLine) (cases : List Case) (line : ProofLine) (left : List Case)
    → ProofLeaves net goal ([] ∷ []) lines cases
    → (ProofLeaves net goal ([] ∷ []) (lines ++ line ∷ []) left ↔ ((fault_of_line net goal cases line ≡ None) × (behind_line net cases line ≡ left)))
