use Rattle.std.specs.List.{AllWithin}
use Rattle.edge_clauses.specs.Proofs.{line_of}
use Rattle.clause_texts.specs.Text.{IsClauseLine}
use Rattle.clause_texts.proofs.fitting.have_texts.Given as goal

abbrev pub invariant-loop-line : goal.invariant-loop-line
invariant-loop-line l = AllWithin (λ line. IsClauseLine (line_of line)) l.lines 0 l.line-index
