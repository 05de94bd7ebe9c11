-- A network that is copied constraint by constraint.
use Rattle.std.proofs.Common.{◌≡◌, ◌+◌, ℕ, take, Option, Some, None, slice_get, refl, sym, ap, ◌∙◌}
use Rattle.std.specs.Prelude.{IsSomeAnd}
use Rattle.event_graph.specs.Network.{Constraint, Net, with_constraint}
use Rattle.itv_base.proofs.Lists.{take_get}

-- one constraint more
more_by : (net : Net) (number : ℕ) (old new : Net) (o : Option Constraint) → slice_get net.constraints number ≡ o
    → old ≡ record net { constraints = take number net.constraints } → IsSomeAnd o (λ c. new ≡ with_constraint old c)
    → new ≡ record net { constraints = take (number + 1) net.constraints }
more_by net number old new None at before added = absurd added
more_by net number old new (Some c) at before added =
    added ∙ (ap (λ (n : Net). with_constraint n c) before ∙ ap (λ cs. record net { constraints = cs }) (sym (take_get net.constraints number c at)))

pub copied_more : (net : Net) (number : ℕ) (old new : Net) → old ≡ record net { constraints = take number net.constraints }
    → IsSomeAnd (slice_get net.constraints number) (λ c. new ≡ with_constraint old c) → new ≡ record net { constraints = take (number + 1) net.constraints }
copied_more net number old new before added = more_by net number old new (slice_get net.constraints number) refl before added
