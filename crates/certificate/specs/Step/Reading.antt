-- Reading the text of a line of a proof.
use Rattle.std.specs.Prelude.{ℕ, List, Option}
use Rattle.event_graph.specs.Proof.{ProofLine}
use Rattle.line_words.specs.Words.{split_words}
use Rattle.certificate.specs.Reading.{proof_in}

-- the line of a proof with this text, which has no line end
abbrev pub line_in : List ℕ → Option ProofLine
line_in text = proof_in (split_words text)
