-- Chains of events: each event comes exactly as far after the event before it as it is drawn.
use Rattle.std.specs.Prelude.{◌≡◌, ◌+◌, ◌≤◌, ◌↔◌, ℕ, ℤ, ◌-ℤ◌, List, [], ◌∷◌, length}
use Rattle.event_graph.specs.Network.{Constraint, Net, linear}
use Rattle.event_graph.specs.Satisfying.{Satisfies}
use Rattle.event_graph.specs.Times.{shifted}
use Rattle.redraw.specs.Drawing.{exactly}
use Rattle.redraw.specs.Order.{event}

-- the constraints between each event and the next, from a number on
abbrev pub chain_from : ℕ → ℤ → List ℤ → List Constraint
chain_from k before [] = []
chain_from k before (time ∷ times) = linear (event k) (event (k + 1)) (exactly (time -ℤ before)) ∷ chain_from (k + 1) time times

abbrev pub chain : List ℤ → List Constraint
chain [] = []
chain (time ∷ times) = chain_from 0 time times

abbrev pub chain_net : List ℤ → Net
chain_net times = record { events = length times; constraints = chain times }

-- times satisfy a chain if and only if they are its drawn times plus one number
abbrev pub TimesOfChain : Type 0
TimesOfChain = (drawn times : List ℤ) → 1 ≤ length drawn → (Satisfies times (chain_net drawn) ↔ ((by : ℤ) × (times ≡ shifted drawn by)))
