-- Matrices of path lengths, row by row: the entry from one event to another is in the row of the first at the place of the second.
use Rattle.std.specs.Prelude.{◌≡◌, ◌<◌, ◌≤◌, ℕ, ℤ, List, [], length, Option, Some, None, int_lt, slice_index_or, if◌then◌else◌}
use Rattle.itv_base.specs.declared.limits.TheConstants.{MAX_MATRIX_EVENTS}
use Rattle.itv_base.specs.declared.names.EventId.{EventId}
use Rattle.event_graph.specs.Network.{Net}
use Rattle.event_graph.specs.RootBound.{HasNoRoot, IsRootBound}
use Rattle.minplus.specs.Rows.{entry_at}
use Rattle.minplus.specs.declared.fault.MatrixFault.{MatrixFault}
use Rattle.minplus.specs.declared.fault.MatrixFault.TheVariants.{Loop, NoMemory, TooMany}
use Rattle.minplus.specs.declared.rows.TheConstants.{ABSENT}

-- the entry of a matrix from one event to another, given by their numbers
abbrev pub cells : List (List ℤ) → ℕ → ℕ → ℤ
cells rows from to = entry_at (slice_index_or rows from []) to

-- the number of an entry, or none where it is absent
abbrev pub number_of : ℤ → Option ℤ
number_of entry = if int_lt entry ABSENT then Some entry else None

-- what a matrix holds for a pair of events
abbrev pub entry_of : List (List ℤ) → EventId → EventId → Option ℤ
entry_of rows from to = number_of (cells rows from.0 to.0)

-- there is a row for each event, and each row has an entry for each event
pub record IsSquare (events : ℕ) (rows : List (List ℤ)) : Type 0 where
  pub count : length rows ≡ events
  pub each : (from : ℕ) → from < events → length (slice_index_or rows from []) ≡ events

-- the root bounds of all pairs of events of a network
pub record AreRootBounds (net : Net) (rows : List (List ℤ)) : Type 0 where
  pub square : IsSquare net.events rows
  pub bounds : (from to : EventId) → from.0 < net.events → to.0 < net.events → IsRootBound net from to (entry_of rows from to)

-- why a network has no matrix: it has too many events, and this is their number; or it has few enough, and no times meet its always-edges or memory ran
-- out
abbrev pub IsMatrixFault : Net → MatrixFault → Type 0
IsMatrixFault net (TooMany events) = (events ≡ net.events) × (MAX_MATRIX_EVENTS < net.events)
IsMatrixFault net Loop = (net.events ≤ MAX_MATRIX_EVENTS) × HasNoRoot net
IsMatrixFault net NoMemory = net.events ≤ MAX_MATRIX_EVENTS
