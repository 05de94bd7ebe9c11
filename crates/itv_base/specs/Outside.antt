-- What the calls of a shelf and of a sink do, and what their failures say.
use Rattle.std.specs.Prelude.{◌≡◌, ℕ, ⊤, ◌+◌, ◌-◌, ◌^◌, ◌<◌, ◌≤◌, ◌⊎◌, min, Bool, true, List, ◌++◌, length, take, Option, Some, IfSome, IsNone, option_map, Result, Ok, Err}
use Rattle.std.specs.Ordering.{nat_cmp}
use Rattle.std.specs.Cmp.Lexicographic.{slice_cmp}
use Rattle.std.specs.FinMap as map
use Rattle.std.specs.Global.{Vec}
use Rattle.itv_base.specs.declared.shelf.FetchFault.{FetchFault}
use Rattle.itv_base.specs.declared.shelf.FetchFault.TheVariants.{Failed, NoMemory}

-- files by name
abbrev pub Files : Type 0
Files = map.FinMap (slice_cmp nat_cmp) (List ℕ)

-- the bytes of the file with a name
abbrev pub file_of : Files → List ℕ → Option (List ℕ)
file_of files name = map.get files name

-- the last value of a count of faults
abbrev pub last_count : ℕ
last_count = 2 ^ 64 - 1

-- a count of faults after one more
abbrev pub one_more_fault : ℕ → ℕ
one_more_fault count = min (count + 1) last_count

-- a count of faults rose in a call: it grew, or after the call it stands at its last value
abbrev pub FaultCounted : ℕ → ℕ → Type 0
FaultCounted before now = (before < now) ⊎ (now ≡ last_count)

-- What contracts see of a shelf: its files, if they see them; how often its fetches have failed; the name in the latest failed fetch; and whether its
-- fetches fail only for names of which it has no file.
pub record ShelfState : Type 0 where
  pub files : Option Files
  pub faults : ℕ
  pub last : List ℕ
  pub is_faithful : Bool

-- what contracts see of a sink: what was written, if they see it, and how often its puts have failed
pub record SinkState : Type 0 where
  pub written : Option (List ℕ)
  pub faults : ℕ

-- ---- fetches

-- if contracts see the files, the file of a name is there, and these are its first bytes, or all its bytes if there are fewer
abbrev pub HasFront : Option Files → List ℕ → ℕ → List ℕ → Type 0
HasFront listed name most bytes = IfSome listed (λ files. option_map (take most) (file_of files name) ≡ Some bytes)

-- if contracts see the files, there is no file of a name
abbrev pub IsMissing : Option Files → List ℕ → Type 0
IsMissing listed name = IfSome listed (λ files. IsNone (file_of files name))

-- a fetch of a name failed: the count rose, the name is the last that failed, and the rest of the state is unchanged; a faithful shelf has no file of
-- the name
pub record FailedFor (name : List ℕ) (old new : ShelfState) : Type 0 where
  pub files : new.files ≡ old.files
  pub faithful : new.is_faithful ≡ old.is_faithful
  pub count : old.faults ≤ new.faults
  pub rose : FaultCounted old.faults new.faults
  pub last : new.last ≡ name
  pub missing : old.is_faithful ≡ true → IsMissing old.files name

-- What a fetch returns and leaves. It returns at most so many bytes. If contracts see the files, these are the first bytes of the file. Only a fetch
-- that failed changes the state of the shelf.
abbrev pub Fetches : ShelfState → ShelfState → List ℕ → ℕ → Result (Vec ℕ) FetchFault → Type 0
Fetches old new name most (Ok bytes) = (new ≡ old) × (length bytes.items ≤ most) × HasFront old.files name most bytes.items
Fetches old new name most (Err Failed) = FailedFor name old new
Fetches old new name most (Err NoMemory) = new ≡ old

-- for a shelf whose files contracts do not see: how often its fetches have failed, and the name in the latest failed fetch
pub record Failures : Type 0 where
  pub faults : ℕ
  pub last : List ℕ

-- ---- puts

-- the state of a sink with some bytes more
abbrev pub grown : SinkState → List ℕ → SinkState
grown state bytes = record state { written = option_map (λ known. known ++ bytes) state.written }

-- a put failed: a front of the bytes was written, and the count rose
pub record CutShort (old new : SinkState) (bytes : List ℕ) : Type 0 where
  pub front : (n : ℕ) × (n ≤ length bytes) × (new.written ≡ (grown old (take n bytes)).written)
  pub count : old.faults ≤ new.faults
  pub rose : FaultCounted old.faults new.faults

-- What one put or several did to a sink: they appended all of the bytes, or failed and appended a front of them.
abbrev pub Puts : {E : Type 0} → SinkState → SinkState → List ℕ → Result ⊤ E → Type 0
Puts old new bytes (Ok x) = new ≡ grown old bytes
Puts old new bytes (Err e) = CutShort old new bytes
