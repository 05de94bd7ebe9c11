-- Readings that ask for files, and their results.
use Rattle.std.specs.Prelude.{◌≡◌, ◌⊎◌, ◌+◌, ℕ, nat_lt, if◌then◌else◌, List, [], ◌∷◌, length, take, Result, Ok, Err}
use Rattle.std.specs.Option.{option_map_or}
use Rattle.itv_base.specs.Outside.{Files, ShelfState, HasFront, FailedFor, file_of}
use Rattle.design_reading.specs.declared.refusal_place.RefusalPlace.{RefusalPlace}
use Rattle.design_reading.specs.declared.refusal.Refusal.{Refusal}
use Rattle.design_reading.specs.declared.refusal.Refusal.TheVariants.{TooLong}

-- A reading gives something, or refuses it at a place, or asks for the front of a file by its name and continues with the bytes.
pub data FileReading (A : Type 0) : Type 0 where
  gives : A → FileReading A
  refuses : RefusalPlace → Refusal → FileReading A
  fetches : RefusalPlace → List ℕ → ℕ → (List ℕ → FileReading A) → FileReading A

-- one reading, and then another that continues with what the first gives
infixl 10 ◌>>=◌
abbrev pub ◌>>=◌ : {A B : Type 0} → FileReading A → (A → FileReading B) → FileReading B
(gives x) >>= f = f x
(refuses place why) >>= f = refuses place why
(fetches place name most next) >>= f = fetches place name most (λ bytes. next bytes >>= f)

-- a step for each element of a list in order, numbered from n on, with the result for the elements before it
abbrev pub each : {A X : Type 0} → (ℕ → A → X → FileReading A) → ℕ → A → List X → FileReading A
each step n done [] = gives done
each step n done (x ∷ xs) = step n done x >>= λ more. each step (n + 1) more xs

-- what was read already, or its fault, which becomes a refusal at a place
abbrev pub at : {A F : Type 0} → RefusalPlace → (F → Refusal) → Result A F → FileReading A
at place why (Ok x) = gives x
at place why (Err fault) = refuses place (why fault)

-- bytes that are not longer than a limit
abbrev pub within_limit : RefusalPlace → ℕ → List ℕ → FileReading (List ℕ)
within_limit place limit bytes = if nat_lt limit (length bytes) then refuses place TooLong else gives bytes

-- The bytes of a file, which is refused if it is longer than a limit. One byte more than the limit is asked for, which shows whether the file is too long.
abbrev pub file_at : RefusalPlace → List ℕ → ℕ → FileReading (List ℕ)
file_at place name limit = fetches place name (limit + 1) (within_limit place limit)

-- how a reading ends: with something, with a refusal, or at a file that could not be read
pub data End (A : Type 0) : Type 0 where
  ready : A → End A
  refused : RefusalPlace → Refusal → End A
  unread : RefusalPlace → List ℕ → End A

-- A reading over a shelf ends. It had each file that it asked for before. Where it is known which files the shelf has, the bytes are the first
-- of the file. At any file that it asks for the reading may end.
abbrev pub RunsTo : {A : Type 0} → ShelfState → FileReading A → End A → Type 0
RunsTo shelf (gives x) end = end ≡ ready x
RunsTo shelf (refuses place why) end = end ≡ refused place why
RunsTo shelf (fetches place name most next) end =
    (end ≡ unread place name) ⊎ ((bytes : List ℕ) × HasFront shelf.files name most bytes × RunsTo shelf (next bytes) end)

-- what an end leaves of the shelf: a failed fetch is counted and its name kept, and otherwise nothing changes
abbrev pub LeavesShelf : {A : Type 0} → ShelfState → ShelfState → End A → Type 0
LeavesShelf old new (ready x) = new ≡ old
LeavesShelf old new (refused place why) = new ≡ old
LeavesShelf old new (unread place name) = FailedFor name old new

-- a reading had this end, and led from one state of a shelf to another
abbrev pub RunsToEnd : {A : Type 0} → ShelfState → ShelfState → FileReading A → End A → Type 0
RunsToEnd old new opening end = RunsTo old opening end × LeavesShelf old new end

-- how a reading ends over files that are known, where each fetch of a file that is there succeeds
abbrev pub end_over : {A : Type 0} → Files → FileReading A → End A
end_over files (gives x) = ready x
end_over files (refuses place why) = refused place why
end_over files (fetches place name most next) =
    option_map_or (λ file. end_over files (next (take most file))) (file_of files name) (unread place name)
