-- Lines of proofs that own their edges.
use Rattle.event_graph.specs.Proof.{Loop, Path, ProofLine, Split}
use Rattle.certificate.specs.declared.line.OwnedLine.{OwnedLine}
use Rattle.certificate.specs.declared.line.OwnedLine.TheVariants as lines

abbrev pub line_view : OwnedLine → ProofLine
line_view (lines.Split constraint) = Split constraint
line_view (lines.Path edges) = Path edges.items
line_view (lines.Loop edges) = Loop edges.items
