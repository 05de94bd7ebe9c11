-- What a solver keeps of the constraints that are to be tried.
use Rattle.std.specs.Prelude.{◌≡◌, ◌<◌, ◌*◌, ◌/◌, ◌%◌, ℕ, ℤ, List, length, Contains, slice_index_or}
use Rattle.std.specs.Int.{bit_at}
use Rattle.itv_base.specs.declared.names.EdgeName.{EdgeName}
use Rattle.event_graph.specs.EventLists.{at_event}
use Rattle.event_graph.specs.Network.{Net}
use Rattle.falling.specs.Step.Turns.{IsConstraintTried}
use Rattle.falling.specs.Agenda.{AreLists, HasName}

-- the bit of a number in words of 64 bits
abbrev pub pending_bit : List ℕ → ℕ → ℕ
pending_bit words number = bit_at (slice_index_or words (number / 64) 0) (number % 64)

-- the number has a flag
abbrev pub IsPending : List ℕ → ℕ → Type 0
IsPending words number = pending_bit words number ≡ 1

-- the least number that has a flag
pub record IsFirstPending (words : List ℕ) (number : ℕ) : Type 0 where
  pub within : number < 64 * length words
  pub here : IsPending words number
  pub earlier : (k : ℕ) → k < number → IsPending words k → ⊥

-- lists that have grown
pub record Grows (net : Net) (old new : List (List ℕ)) : Type 0 where
  pub lists : AreLists net new
  pub kept : (event n : ℕ) → Contains (at_event old event) n → Contains (at_event new event) n

-- where there are edges of a cause of a constraint, on either side, the constraint follows the events where they start
abbrev pub HasCause : Net → List (List ℕ) → ℕ → ℕ → Type 0
HasCause net lists number cause = (name : EdgeName) → name.constraint ≡ number → name.cause ≡ cause → HasName net lists name

-- a constraint without a flag allows no line
abbrev pub AreOthersTried : Net → List ℤ → List ℕ → Type 0
AreOthersTried net values pending =
    (number : ℕ) → number < length net.constraints → (IsPending pending number → ⊥) → IsConstraintTried net values number
