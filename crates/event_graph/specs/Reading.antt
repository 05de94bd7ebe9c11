-- The cases that are open after some lines of a proof, whatever the lines show.
use Rattle.std.specs.Prelude.{◌≡◌, ℕ, List, [], ◌∷◌, ◌++◌}
use Rattle.event_graph.specs.Network.{Net}
use Rattle.event_graph.specs.Proof.{Case, Loop, Path, ProofLine, Split, cases_of}

-- the cases that some lines leave open: each line closes the first open case, or replaces it by the cases of its split
abbrev pub cases_left : Net → List Case → List ProofLine → List Case
cases_left net cases [] = cases
cases_left net [] (line ∷ lines) = []
cases_left net (chosen ∷ cases) (Split number ∷ lines) = cases_left net (cases_of net chosen number ++ cases) lines
cases_left net (chosen ∷ cases) (Path names ∷ lines) = cases_left net cases lines
cases_left net (chosen ∷ cases) (Loop names ∷ lines) = cases_left net cases lines

-- at each split of the lines something holds of the lines before it, of the case that is split, and of the number of the split constraint
abbrev pub AtEachSplit : Net → (List ProofLine → Case → ℕ → Type 0) → List ProofLine → Type 0
AtEachSplit net Holds lines =
    (before after : List ProofLine) (number : ℕ) (chosen : Case) (cases : List Case) → lines ≡ before ++ Split number ∷ after
    → cases_left net ([] ∷ []) before ≡ chosen ∷ cases → Holds before chosen number
