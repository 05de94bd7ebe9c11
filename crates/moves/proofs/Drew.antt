-- Constraints and causes of a drawn network that are there.
use Rattle.std.proofs.Common.{◌≡◌, ◌<◌, ◌≤◌, ℕ, zero, suc, IsSome, List, [], ◌∷◌, length, map, Option, Some, None, option_map, option_and_then, slice_get, refl, sym, subst, ◌∙◌, arith}
use Rattle.std.specs.Prelude.{unwrap_or}
use Rattle.std.proofs.lemmas.Option.{same_Some}
use Rattle.itv_base.specs.declared.limits.TheConstants.{MAX_CAUSES}
use Rattle.itv_base.specs.declared.names.EventId.{EventId}
use Rattle.itv_base.proofs.Lists.{found_below}
use Rattle.origin.specs.declared.origin.Origin.{Origin}
use Rattle.event_graph.proofs.EdgesMet.{All-found}
use Rattle.event_graph.specs.declared.cause.Cause.{Cause}
use Rattle.event_graph.specs.Network.{Constraint, IsConstraint, IsNet, Net, cause_at}
use Rattle.event_graph.proofs.Causes.{few_causes}
use Rattle.drawn_networks.specs.Drawn.{Drawn, OriginsFit}
use Rattle.drawn_numbers.specs.Numbers.{origins_of}
use Rattle.moves.specs.Step.{causes_at}

-- ---- a constraint within the limits

pub target_by : (net : Net) (k : ℕ) (target : EventId) (o : Option Constraint) → slice_get net.constraints k ≡ o → option_map (λ (c : Constraint). c.target) o ≡ Some target → IsNet net
    → target.0 < net.events
target_by net k target None at is within = absurd (cc is)
target_by net k target (Some c) at is within =
    subst (λ (e : EventId). e.0 < net.events) (same_Some c.target target is) (All-found (IsConstraint net.events) net.constraints k c at within.constraints).target

-- the target of a constraint is an event of the network
pub target_within : (net : Net) (k : ℕ) (target : EventId) → option_map (λ (c : Constraint). c.target) (slice_get net.constraints k) ≡ Some target → IsNet net → target.0 < net.events
target_within net k target is within = target_by net k target (slice_get net.constraints k) refl is within

event_by : (net : Net) (k i : ℕ) (c : Cause) (o : Option Constraint) → slice_get net.constraints k ≡ o → option_and_then (λ (x : Constraint). slice_get x.causes i) o ≡ Some c → IsNet net
    → c.event.0 < net.events
event_by net k i c None at is within = absurd (cc is)
event_by net k i c (Some x) at is within =
    All-found (λ (d : Cause). d.event.0 < net.events) x.causes i c is (All-found (IsConstraint net.events) net.constraints k x at within.constraints).causes

-- and so is the event of a cause
pub event_within : (net : Net) (k i : ℕ) (c : Cause) → cause_at net k i ≡ Some c → IsNet net → c.event.0 < net.events
event_within net k i c is within = event_by net k i c (slice_get net.constraints k) refl is within

-- ---- origins

-- what draws the causes of a constraint: as many as it has causes
lengths_at : (origins : List (List Origin)) (cs : List Constraint) (k : ℕ) → map length origins ≡ map (λ (c : Constraint). length c.causes) cs
    → length (unwrap_or (slice_get origins k) []) ≡ length (unwrap_or (option_map (λ (c : Constraint). c.causes) (slice_get cs k)) [])
lengths_at [] [] k fit = refl
lengths_at [] (c ∷ cs) k fit = absurd (cc fit)
lengths_at (own ∷ origins) [] k fit = absurd (cc fit)
lengths_at (own ∷ origins) (c ∷ cs) zero fit = let same : length own ≡ length c.causes = cc fit in same
lengths_at (own ∷ origins) (c ∷ cs) (suc k) fit = let rest : map length origins ≡ map (λ (d : Constraint). length d.causes) cs = cc fit in lengths_at origins cs k rest

pub same_count : (drawn : Drawn) (k : ℕ) → OriginsFit drawn.net drawn.origins → length (origins_of drawn k) ≡ length (causes_at drawn.net k)
same_count drawn k fit = lengths_at drawn.origins drawn.net.constraints k fit

few_by : (net : Net) (k : ℕ) (o : Option Constraint) → slice_get net.constraints k ≡ o → IsNet net → length (unwrap_or (option_map (λ (c : Constraint). c.causes) o) []) ≤ MAX_CAUSES
few_by net k None at within = omega arith
few_by net k (Some c) at within = few_causes c.kind (length c.causes) (All-found (IsConstraint net.events) net.constraints k c at within.constraints).count

-- a constraint has few causes
pub causes_few : (net : Net) (k : ℕ) → IsNet net → length (causes_at net k) ≤ MAX_CAUSES
causes_few net k within = few_by net k (slice_get net.constraints k) refl within

-- the origins that are read are few
pub few_read : (drawn : Drawn) (k : ℕ) (given : List Origin) → IsNet drawn.net → OriginsFit drawn.net drawn.origins → given ≡ origins_of drawn k → length given ≤ MAX_CAUSES
few_read drawn k given within fit is =
    let count : length (origins_of drawn k) ≤ MAX_CAUSES = subst (λ n. n ≤ MAX_CAUSES) (sym (same_count drawn k fit)) (causes_few drawn.net k within) in
    subst (λ (xs : List Origin). length xs ≤ MAX_CAUSES) (sym is) count

-- the origins that are read
pub read_at : (drawn : Drawn) (k at : ℕ) (origins : List (List Origin)) (got given : List Origin) → origins ≡ drawn.origins → at ≡ k → slice_get origins at ≡ Some got → given ≡ got
    → given ≡ origins_of drawn k
read_at drawn k at origins got given same e found lent =
    let there : slice_get drawn.origins k ≡ Some got = subst (λ (os : List (List Origin)). slice_get os k ≡ Some got) same (subst (λ n. slice_get origins n ≡ Some got) e found) in
    let own : got ≡ origins_of drawn k = rw there refl in
    lent ∙ own

-- ---- causes

some_by : (k i : ℕ) (o : Option Constraint) (c : Cause) → slice_get (unwrap_or (option_map (λ (x : Constraint). x.causes) o) []) i ≡ Some c
    → option_and_then (λ (x : Constraint). slice_get x.causes i) o ≡ Some c
some_by k i None c is = absurd (cc is)
some_by k i (Some x) c is = is

found_by : (i : ℕ) (o : Option Constraint) (c : Cause) → option_and_then (λ (x : Constraint). slice_get x.causes i) o ≡ Some c
    → slice_get (unwrap_or (option_map (λ (x : Constraint). x.causes) o) []) i ≡ Some c
found_by i None c is = absurd (cc is)
found_by i (Some x) c is = is

is_some : (o : Option Cause) (c : Cause) → o ≡ Some c → IsSome o
is_some o c is = subst IsSome (sym is) refl

-- there is a cause for each origin
pub cause_there : (drawn : Drawn) (net : Net) (k i : ℕ) → net ≡ drawn.net → OriginsFit drawn.net drawn.origins → i < length (origins_of drawn k) → IsSome (cause_at net k i)
cause_there drawn net k i same_net fit within =
    let f = found_below (causes_at drawn.net k) i (subst (λ n. i < n) (same_count drawn k fit) within) in
    subst (λ (n : Net). IsSome (cause_at n k i)) (sym same_net)
    (is_some (cause_at drawn.net k i) f.0 (some_by k i (slice_get drawn.net.constraints k) f.0 f.1))

-- the cause that is read is the one among the causes of the constraint
pub cause_found : (drawn : Drawn) (net : Net) (k i : ℕ) (c : Cause) → net ≡ drawn.net → cause_at net k i ≡ Some c → slice_get (causes_at drawn.net k) i ≡ Some c
cause_found drawn net k i c same is =
    let own : cause_at drawn.net k i ≡ Some c = subst (λ (n : Net). cause_at n k i ≡ Some c) same is in
    found_by i (slice_get drawn.net.constraints k) c own

pub cause_within : (drawn : Drawn) (net : Net) (k i : ℕ) (c : Cause) → net ≡ drawn.net → cause_at net k i ≡ Some c → IsNet drawn.net → c.event.0 < drawn.net.events
cause_within drawn net k i c same is within = event_within drawn.net k i c (subst (λ (n : Net). cause_at n k i ≡ Some c) same is) within
