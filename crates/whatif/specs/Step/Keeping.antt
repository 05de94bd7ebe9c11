-- Lines of a proof that are kept for as long as they fit.
use Rattle.std.specs.Prelude.{◌≡◌, ◌⊎◌, ℕ, List, ◌++◌, Bool, if◌then◌else◌, Option, Some, None}
use Rattle.event_graph.specs.Proof.{ProofLine}
use Rattle.certificate.specs.Scribing.{FitsTree}

-- the lines kept, or none once a line did not fit, and the room: how many lines there may be, and how many edges in all of them
pub record KeeperView : Type 0 where
  pub lines : Option (List ProofLine)
  pub line_room : ℕ
  pub edge_room : ℕ

-- some lines and then more: all are kept, or all are let go if they do not fit; once lines were let go, none are kept any more
abbrev pub KeptOn : ℕ → ℕ → Option (List ProofLine) → List ProofLine → Option (List ProofLine) → Type 0
KeptOn line_room edge_room None lines now = now ≡ None
KeptOn line_room edge_room (Some before) lines now =
    (now ≡ Some (before ++ lines)) ⊎ ((now ≡ None) × (FitsTree line_room edge_room (before ++ lines) → ⊥))

-- the scribe took these lines
pub record KeeperGrew (old : KeeperView) (lines : List ProofLine) (new : KeeperView) : Type 0 where
  pub line_room : new.line_room ≡ old.line_room
  pub edge_room : new.edge_room ≡ old.edge_room
  pub lines_now : KeptOn old.line_room old.edge_room old.lines lines new.lines

-- the scribe never fails
abbrev pub KeeperWasCut : KeeperView → List ProofLine → KeeperView → Type 0
KeeperWasCut old lines new = ⊥

-- the lines that are kept, or none once lines were let go
abbrev pub unless_full : Bool → List ProofLine → Option (List ProofLine)
unless_full is_full lines = if is_full then None else Some lines
