-- What a keeper of notes gives.
use Rattle.std.specs.Prelude.{ℕ, List}
use Rattle.origin.specs.declared.origin.Origin.{Origin}

-- By the name of the part, of what draws a cause or a row: its note, and the speed grade that the part is drawn at. Each is empty if there is none.
pub record NotesKept : Type 0 where
  pub note : List ℕ → Origin → List ℕ
  pub grade : List ℕ → Origin → List ℕ
