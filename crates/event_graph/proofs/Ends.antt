-- A network with one more constraint.
use Rattle.std.proofs.Common.{◌≡◌, ◌<◌, ℕ, All, length, Option, Some, None, option_and_then, slice_get, ap, ◌∙◌, refl, arith}
use Rattle.std.proofs.lemmas.Option.{slice_get-get_or}
use Rattle.std.proofs.lemmas.List.{length_push}
use Rattle.std.proofs.lemmas.List.Elements.{All-push}
use Rattle.itv_base.specs.declared.limits.TheConstants.{MAX_CONSTRAINTS}
use Rattle.event_graph.specs.declared.cause.Cause.{Cause}
use Rattle.event_graph.specs.Network.{AreEnds, Constraint, HasEnds, IsConstraint, IsNet, Net, with_constraint}
use Rattle.event_graph.proofs.EdgesMet.{All-found}

-- the ends of one constraint
abbrev pub HasOwnEnds : Constraint → Type 0
HasOwnEnds k = (cause : ℕ) (c : Cause) → slice_get k.causes cause ≡ Some c → AreEnds c.range

pub own_ends : (k : Constraint) → All (λ (c : Cause). AreEnds c.range) k.causes → HasOwnEnds k
own_ends k all cause c at = All-found (λ (d : Cause). AreEnds d.range) k.causes cause c at all

-- the constraint of a cause that is there
pub found : (o : Option Constraint) (cause : ℕ) (c : Cause) → option_and_then (λ (k : Constraint). slice_get k.causes cause) o ≡ Some c
    → (k : Constraint) × (o ≡ Some k) × (slice_get k.causes cause ≡ Some c)
found None cause c is = absurd (cc)
found (Some k) cause c is = (k, refl, is)

pub all_own : (net : Net) → HasEnds net → All HasOwnEnds net.constraints
all_own net ends = λ k d within cause c at.
    ends k cause c (ap (option_and_then (λ (x : Constraint). slice_get x.causes cause)) (slice_get-get_or net.constraints k d within) ∙ at)

pub ends_of_all : (net : Net) → All HasOwnEnds net.constraints → HasEnds net
ends_of_all net all constraint cause c is =
    let own = found (slice_get net.constraints constraint) cause c is in
    All-found HasOwnEnds net.constraints constraint own.0 own.1 all cause c own.2

-- one more constraint whose ends are within the limit
ends_more : (net : Net) (k : Constraint) → HasEnds net → All (λ (c : Cause). AreEnds c.range) k.causes → HasEnds (with_constraint net k)
ends_more net k ends own = ends_of_all (with_constraint net k) (All-push HasOwnEnds net.constraints k (all_own net ends) (own_ends k own))

pub net_more : (net : Net) (k : Constraint) → IsNet net → length net.constraints < MAX_CONSTRAINTS → IsConstraint net.events k
    → All (λ (c : Cause). AreEnds c.range) k.causes → IsNet (with_constraint net k)
net_more net k is_net room is_constraint own = record {
  events = is_net.events;
  constraints = All-push (IsConstraint net.events) net.constraints k is_net.constraints is_constraint;
  count = omega (arith, length_push net.constraints k);
  ends = ends_more net k is_net.ends own;
}
