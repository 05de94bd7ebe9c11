-- The files that a reading asks for.
use Rattle.std.specs.Prelude.{ℕ, List, [], ◌∷◌}
use Rattle.design_reading.specs.Design.{design_at}
use Rattle.design_reading.specs.FileReading.{FileReading, gives, refuses, fetches, ◌>>=◌}

-- A reading that gives, in place of what another one gives, the names of the files that the other one asks for, in the order in which it asks for them.
-- It refuses what the other one refuses.
abbrev pub asked_by : {A : Type 0} → FileReading A → FileReading (List (List ℕ))
asked_by (gives x) = gives []
asked_by (refuses place why) = refuses place why
asked_by (fetches place name most next) = fetches place name most (λ bytes. asked_by (next bytes) >>= λ names. gives (name ∷ names))

-- the names of the files that the design of a file is made of: all that its reading asks for
abbrev pub files_at : List ℕ → FileReading (List (List ℕ))
files_at name = asked_by (design_at name)
