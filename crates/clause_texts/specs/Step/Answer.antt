-- What a reader within this crate answers to the text of a line of a proof by clauses.
use Rattle.std.specs.Prelude.{◌≡◌, Option, Some, None, Result, Ok, Err}
use Rattle.certificate.specs.declared.fault.LineFault.{LineFault}
use Rattle.certificate.specs.declared.fault.LineFault.TheVariants.{BadLine, NoMemory}
use Rattle.edge_clauses.specs.declared.line.StoredLine.{StoredLine}
use Rattle.edge_clauses.specs.Lines.{ClauseLine}
use Rattle.edge_clauses.specs.Proofs.{line_of}

-- what was read is what reading gives, unless memory ran out
abbrev pub IsClauseRead : Result StoredLine LineFault → Option ClauseLine → Type 0
IsClauseRead (Ok line) read = read ≡ Some (line_of line)
IsClauseRead (Err BadLine) read = read ≡ None
IsClauseRead (Err NoMemory) read = Unit {0}
