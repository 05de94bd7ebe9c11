-- The answer to the text of a line of a proof.
use Rattle.std.specs.Prelude.{◌≡◌, Result, Ok, Err}
use Rattle.event_graph.specs.Proof.{ProofLine}
use Rattle.certificate.specs.declared.fault.LineFault.{LineFault}
use Rattle.certificate.specs.declared.fault.LineFault.TheVariants.{BadLine, NoMemory}
use Rattle.certificate.specs.declared.line.OwnedLine.{OwnedLine}
use Rattle.certificate.specs.Owned.{line_view}

-- this line was read, unless memory ran out
abbrev pub IsReadAs : Result OwnedLine LineFault → ProofLine → Type 0
IsReadAs (Ok owned) line = line_view owned ≡ line
IsReadAs (Err BadLine) line = ⊥
IsReadAs (Err NoMemory) line = Unit {0}
