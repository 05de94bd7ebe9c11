-- What a reader answers to the text of a line of a proof by clauses.
use Rattle.std.specs.Prelude.{◌≡◌, Result, Ok, Err}
use Rattle.certificate.specs.declared.fault.LineFault.{LineFault}
use Rattle.certificate.specs.declared.fault.LineFault.TheVariants.{BadLine, NoMemory}
use Rattle.edge_clauses.specs.declared.line.StoredLine.{StoredLine}
use Rattle.edge_clauses.specs.Lines.{ClauseLine}
use Rattle.edge_clauses.specs.Proofs.{line_of}

-- this line was read, unless memory ran out
abbrev pub IsReadAs : Result StoredLine LineFault → ClauseLine → Type 0
IsReadAs (Ok stored) line = line_of stored ≡ line
IsReadAs (Err BadLine) line = ⊥
IsReadAs (Err NoMemory) line = Unit {0}
