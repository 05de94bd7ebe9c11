-- What scribes do with the lines of a proof.
use Rattle.std.specs.Prelude.{◌≡◌, ◌≤◌, ℕ, List, [], ◌∷◌, ◌++◌, length}
use Rattle.std.specs.List.{sum_by}
use Rattle.event_graph.specs.Proof.{Loop, Path, ProofLine, Split}
use Rattle.itv_base.specs.Outside.{CutShort, SinkState, grown, one_more_fault}
use Rattle.certificate.specs.Text.{proof_text}

-- ---- writing them

-- the state of a sink grew by just the texts of the lines
abbrev pub SinkGrew : SinkState → List ProofLine → SinkState → Type 0
SinkGrew old lines new = new ≡ grown old (proof_text lines)

-- the state of a sink grew by a front of their texts, and its count of faults rose
abbrev pub SinkWasCut : SinkState → List ProofLine → SinkState → Type 0
SinkWasCut old lines new = CutShort old new (proof_text lines)

-- ---- keeping them

-- the lines kept, the room for lines, the room for the edges of all lines, and how often a line did not fit
pub record TreeView : Type 0 where
  pub lines : List ProofLine
  pub line_room : ℕ
  pub edge_room : ℕ
  pub faults : ℕ

abbrev pub edge_count : ProofLine → ℕ
edge_count (Split constraint) = 0
edge_count (Path edges) = length edges
edge_count (Loop edges) = length edges

-- the lines fit the room
abbrev pub FitsTree : ℕ → ℕ → List ProofLine → Type 0
FitsTree line_room edge_room lines = (length lines ≤ line_room) × (sum_by edge_count lines ≤ edge_room)

-- the lines were appended
abbrev pub TreeGrew : TreeView → List ProofLine → TreeView → Type 0
TreeGrew old lines new = new ≡ record old { lines = old.lines ++ lines }

-- All lines but the last were appended. The last line did not fit beside the lines then kept, and the count of faults rose by one.
pub record TreeWasCut (old : TreeView) (lines : List ProofLine) (new : TreeView) : Type 0 where
  pub before : List ProofLine
  pub last : ProofLine
  pub parts : lines ≡ before ++ last ∷ []
  pub kept : new.lines ≡ old.lines ++ before
  pub line_room : new.line_room ≡ old.line_room
  pub edge_room : new.edge_room ≡ old.edge_room
  pub faults : new.faults ≡ one_more_fault old.faults
  pub full : FitsTree new.line_room new.edge_room (new.lines ++ last ∷ []) → ⊥
