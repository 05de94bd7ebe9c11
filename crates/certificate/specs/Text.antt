-- The text of a line of a proof.
use Rattle.std.specs.Prelude.{◌≡◌, ◌<◌, ◌^◌, ℕ, List, [], ◌∷◌, ◌++◌, map, codes, All}
use Rattle.std.specs.List.{flat_map}
use Rattle.itv_base.specs.Numerals.{number_text}
use Rattle.itv_base.specs.declared.names.EdgeName.{EdgeName}
use Rattle.itv_base.specs.declared.names.Side.{Side}
use Rattle.itv_base.specs.declared.names.Side.TheVariants.{Lower, Upper}
use Rattle.event_graph.specs.Proof.{Loop, Path, ProofLine, Split}
use Rattle.line_words.specs.Words.{Word}
use Rattle.line_words.specs.Lines.{ended, line_of}

-- ---- which lines have a text

-- the constraint and the cause of the edge fit 32 bits
abbrev pub IsEdgeName : EdgeName → Type 0
IsEdgeName edge = (edge.constraint < 2 ^ 32) × (edge.cause < 2 ^ 32)

-- each number of the line fits 32 bits
abbrev pub IsProofLine : ProofLine → Type 0
IsProofLine (Split constraint) = constraint < 2 ^ 32
IsProofLine (Path edges) = All IsEdgeName edges
IsProofLine (Loop edges) = All IsEdgeName edges

-- ---- its text

abbrev pub side_letter : Side → Word
side_letter Upper = codes "u"
side_letter Lower = codes "l"

-- an edge: its constraint, a full stop, its cause and its side
abbrev pub edge_word : EdgeName → Word
edge_word edge = number_text edge.constraint ++ (46 ∷ (number_text edge.cause ++ side_letter edge.side))

abbrev pub proof_words : ProofLine → List Word
proof_words (Split constraint) = codes "split" ∷ number_text constraint ∷ []
proof_words (Path edges) = codes "path" ∷ map edge_word edges
proof_words (Loop edges) = codes "loop" ∷ map edge_word edges

-- the line without its line end, and then with it
abbrev pub proof_line : ProofLine → List ℕ
proof_line line = line_of (proof_words line)

abbrev pub proof_line_text : ProofLine → List ℕ
proof_line_text line = ended (proof_line line)

-- the text of lines of a proof, one after another
abbrev pub proof_text : List ProofLine → List ℕ
proof_text lines = flat_map proof_line_text lines

-- the text is the text of the line, without its line end
pub record Spells (text : List ℕ) (line : ProofLine) : Type 0 where
  pub form : IsProofLine line
  pub text_is : text ≡ proof_line line
