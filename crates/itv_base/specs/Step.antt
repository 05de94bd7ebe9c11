-- Words of contracts within this crate: what a loop over the reads of a reader, or over the writes of a writer, did.
use Rattle.std.specs.Prelude.{◌≡◌, ℕ, ◌≤◌, List, ◌++◌, length, take, Option}
use Rattle.std.specs.Io.KnownBytes.{Appends, Consumes}

-- Bytes were read and put after others. They came next in what the reader had left, if that is known.
pub record ReadsOn (before after : Option (List ℕ)) (old new : List ℕ) : Type 0 where
  pub more : List ℕ
  pub grew : new ≡ old ++ more
  pub taken : Consumes before after more

-- A front of some bytes was written, if it is known what the writer holds.
pub record WritesFront (before after : Option (List ℕ)) (bytes : List ℕ) : Type 0 where
  pub count : ℕ
  pub within : count ≤ length bytes
  pub written : Appends before after (take count bytes)
