-- The lines of proofs, read one after another.
use Rattle.std.proofs.Common.{◌≡◌, ◌+◌, List, [], ◌∷◌, ◌++◌, arith}
use Rattle.event_graph.specs.Network.{Net}
use Rattle.event_graph.specs.Proof.{Case, Loop, Path, ProofGoal, ProofLine, ProofLeaves, Split, cases_of, closing_lines}
use Rattle.event_graph.specs.Laws.{ReadingLeavesCases}

pub reading_leaves_cases : ReadingLeavesCases
reading_leaves_cases net goal cases left [] reads = reads
reading_leaves_cases net goal [] left (line ∷ lines) reads = absurd reads
reading_leaves_cases net goal (chosen ∷ cases) left (Split number ∷ lines) reads = reading_leaves_cases net goal (cases_of net chosen number ++ cases) left lines reads.1
reading_leaves_cases net goal (chosen ∷ cases) left (Path names ∷ lines) reads = reading_leaves_cases net goal cases left lines reads.1
reading_leaves_cases net goal (chosen ∷ cases) left (Loop names ∷ lines) reads = reading_leaves_cases net goal cases left lines reads.1

-- lines, and then more of them
pub reads-append : (net : Net) (goal : ProofGoal) (xs ys : List ProofLine) (cases mid left : List Case) → ProofLeaves net goal cases xs mid → ProofLeaves net goal mid ys left
    → ProofLeaves net goal cases (xs ++ ys) left
reads-append net goal [] ys cases mid left first then' = rw first then'
reads-append net goal (line ∷ xs) ys [] mid left first then' = absurd first
reads-append net goal (Split number ∷ xs) ys (chosen ∷ cases) mid left first then' =
    (first.0, reads-append net goal xs ys (cases_of net chosen number ++ cases) mid left first.1 then')
reads-append net goal (Path names ∷ xs) ys (chosen ∷ cases) mid left first then' = (first.0, reads-append net goal xs ys cases mid left first.1 then')
reads-append net goal (Loop names ∷ xs) ys (chosen ∷ cases) mid left first then' = (first.0, reads-append net goal xs ys cases mid left first.1 then')

pub closing_lines-append : (xs ys : List ProofLine) → closing_lines (xs ++ ys) ≡ closing_lines xs + closing_lines ys
closing_lines-append [] ys = omega arith
closing_lines-append (Split number ∷ xs) ys = closing_lines-append xs ys
closing_lines-append (Path names ∷ xs) ys = omega (arith, closing_lines-append xs ys)
closing_lines-append (Loop names ∷ xs) ys = omega (arith, closing_lines-append xs ys)
