-- The answer within this crate to the text of a line of a proof.
use Rattle.std.specs.Prelude.{◌≡◌, Option, Some, None, Result, Ok, Err}
use Rattle.event_graph.specs.Proof.{ProofLine}
use Rattle.certificate.specs.declared.fault.LineFault.{LineFault}
use Rattle.certificate.specs.declared.fault.LineFault.TheVariants.{BadLine, NoMemory}
use Rattle.certificate.specs.declared.line.OwnedLine.{OwnedLine}
use Rattle.certificate.specs.Owned.{line_view}

-- what was read is what reading gives, unless memory ran out
abbrev pub IsLineRead : Result OwnedLine LineFault → Option ProofLine → Type 0
IsLineRead (Ok line) read = read ≡ Some (line_view line)
IsLineRead (Err BadLine) read = read ≡ None
IsLineRead (Err NoMemory) read = Unit {0}
