-- Lines of proofs as they are handed over.
use Rattle.event_graph.specs.declared.line.Line.{Line}
use Rattle.event_graph.specs.declared.line.Line.TheVariants as lent
use Rattle.event_graph.specs.Proof.{Loop, Path, ProofLine, Split}

-- a lent line as a line of a proof
abbrev pub lent_line : Line → ProofLine
lent_line (lent.Split constraint) = Split constraint
lent_line (lent.Path edges) = Path edges.now
lent_line (lent.Loop edges) = Loop edges.now
