-- Copies of networks.
use Rattle.std.proofs.Common.{◌≡◌, ap, ◌∙◌, Option, Some, None, slice_get}
use Rattle.std.specs.Prelude.{ℕ, List, IsSomeAnd}
use Rattle.event_graph.specs.Network.{Constraint, Net, with_constraint}

more_by : (old new : Net) (made : Option Constraint) → IsSomeAnd made (λ c. new ≡ with_constraint old c) → new.events ≡ old.events
more_by old new None added = absurd added
more_by old new (Some c) added = ap (λ (n : Net). n.events) added

-- a network has as many events as before one constraint more was copied
pub same_events : (events number : ℕ) (constraints : List Constraint) (old new : Net) → old.events ≡ events
    → IsSomeAnd (slice_get constraints number) (λ c. new ≡ with_constraint old c) → new.events ≡ events
same_events events number constraints old new before added = more_by old new (slice_get constraints number) added ∙ before
