-- What a buffer for a line has gathered.
use Rattle.std.specs.Prelude.{ℕ, ◌+◌, Bool, nat_le, if◌then◌else◌, List, ◌++◌, length, Some}
use Rattle.itv_base.specs.Outside.{SinkState, one_more_fault}

-- the gathered bytes, how many there may be, and how often a piece did not fit
pub record BufferView : Type 0 where
  pub bytes : List ℕ
  pub room : ℕ
  pub faults : ℕ

abbrev pub buffer_state : BufferView → SinkState
buffer_state b = record { written = Some b.bytes; faults = b.faults }

-- a piece fits after the bytes
abbrev pub fits : BufferView → List ℕ → Bool
fits b piece = nat_le (length b.bytes + length piece) b.room

-- what a put leaves: the bytes with the piece if it fits, and otherwise the same bytes and one fault more
abbrev pub after_put : BufferView → List ℕ → BufferView
after_put b piece = if fits b piece then record b { bytes = b.bytes ++ piece } else record b { faults = one_more_fault b.faults }
