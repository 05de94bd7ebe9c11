-- A network with another range for one cause.
use Rattle.std.proofs.Common.{◌≡◌, ◌<◌, ◌↔◌, ℕ, zero, suc, IsTrue, IsSome, List, [], ◌∷◌, All, length, get_or, set, Bool, Option, Some, None, slice_get, sym, ap, ◌∙◌, refl, subst, arith}
use Rattle.std.proofs.lemmas.Option.{get_or_from_slice_get, slice_get-get_or}
use Rattle.std.proofs.lemmas.List.{length-set, set-get_or}
use Rattle.std.proofs.lemmas.List.Elements.{All-set}
use Rattle.itv_base.specs.Range.{Ends}
use Rattle.itv_base.proofs.Lists.{slice_get_set}
use Rattle.event_graph.specs.declared.cause.Cause.{Cause}
use Rattle.event_graph.specs.Laws.{RangeSetAgain}
use Rattle.event_graph.specs.Network.{AreEnds, Constraint, IsCauseCount, IsConstraint, IsNet, Net, cause_at, causes_with, constraints_with, with_range}
use Rattle.event_graph.proofs.EdgesMet.{All-found}
use Rattle.event_graph.proofs.Ends.{HasOwnEnds, all_own, ends_of_all, found, own_ends}

-- ---- the network stays a network

-- a property that all causes have is kept when one cause gets another range, if the cause keeps it with that range
all_causes : (P : Cause → Type 0) (causes : List Cause) (number : ℕ) (range : Ends) (found : Option Cause) → slice_get causes number ≡ found → All P causes
    → ((c : Cause) → P c → P (record c { range = range })) → All P (causes_with causes number range found)
all_causes P causes number range None at all keeps = all
all_causes P causes number range (Some c) at all keeps =
    All-set P causes number (record c { range = range }) (keeps c (All-found P causes number c at all)) all

length_causes : (causes : List Cause) (number : ℕ) (range : Ends) (found : Option Cause) → length (causes_with causes number range found) ≡ length causes
length_causes causes number range None = refl
length_causes causes number range (Some c) = length-set causes number (record c { range = range })

all_constraints : (P : Constraint → Type 0) (constraints : List Constraint) (number cause : ℕ) (range : Ends) (found : Option Constraint) → slice_get constraints number ≡ found
    → All P constraints → ((c : Constraint) → P c → P (record c { causes = causes_with c.causes cause range (slice_get c.causes cause) }))
    → All P (constraints_with constraints number cause range found)
all_constraints P constraints number cause range None at all keeps = all
all_constraints P constraints number cause range (Some c) at all keeps =
    All-set P constraints number (record c { causes = causes_with c.causes cause range (slice_get c.causes cause) })
    (keeps c (All-found P constraints number c at all)) all

length_constraints : (constraints : List Constraint) (number cause : ℕ) (range : Ends) (found : Option Constraint)
    → length (constraints_with constraints number cause range found) ≡ length constraints
length_constraints constraints number cause range None = refl
length_constraints constraints number cause range (Some c) =
    length-set constraints number (record c { causes = causes_with c.causes cause range (slice_get c.causes cause) })

constraint_stays : (events : ℕ) (cause : ℕ) (range : Ends) (c : Constraint) → IsConstraint events c
    → IsConstraint events (record c { causes = causes_with c.causes cause range (slice_get c.causes cause) })
constraint_stays events cause range c is = record {
  target = is.target;
  causes = all_causes (λ (d : Cause). d.event.0 < events) c.causes cause range (slice_get c.causes cause) refl is.causes (λ d below. below);
  count = subst (IsCauseCount c.kind) (sym (length_causes c.causes cause range (slice_get c.causes cause))) is.count;
}

own_all : (c : Constraint) → HasOwnEnds c → All (λ (d : Cause). AreEnds d.range) c.causes
own_all c own = λ k d within. own k (get_or c.causes k d) (slice_get-get_or c.causes k d within)

ends_stay : (cause : ℕ) (range : Ends) → AreEnds range → (c : Constraint) → HasOwnEnds c
    → HasOwnEnds (record c { causes = causes_with c.causes cause range (slice_get c.causes cause) })
ends_stay cause range ends c own =
    own_ends (record c { causes = causes_with c.causes cause range (slice_get c.causes cause) })
    (all_causes (λ (d : Cause). AreEnds d.range) c.causes cause range (slice_get c.causes cause) refl (own_all c own) (λ d h. ends))

pub net_with_range : (net : Net) (constraint cause : ℕ) (range : Ends) → IsNet net → AreEnds range → IsNet (with_range net constraint cause range)
net_with_range net constraint cause range is ends = record {
  events = is.events;
  constraints = all_constraints (IsConstraint net.events) net.constraints constraint cause range (slice_get net.constraints constraint) refl is.constraints
      (constraint_stays net.events cause range);
  count = omega (arith, is.count, length_constraints net.constraints constraint cause range (slice_get net.constraints constraint));
  ends = ends_of_all (with_range net constraint cause range)
      (all_constraints HasOwnEnds net.constraints constraint cause range (slice_get net.constraints constraint) refl (all_own net is.ends) (ends_stay cause range ends));
}

-- ---- one constraint is set

here : (constraints : List Constraint) (number : ℕ) (c : Constraint) → number < length constraints → c ≡ get_or constraints number c → slice_get constraints number ≡ Some c
here constraints number c within at = slice_get-get_or constraints number c within ∙ ap Some (sym at)

pub constraint_set : (constraints : List Constraint) (number cause : ℕ) (range : Ends) (c new : Constraint) → number < length constraints → c ≡ get_or constraints number c
    → new ≡ record c { causes = causes_with c.causes cause range (slice_get c.causes cause) }
    → set constraints number new ≡ constraints_with constraints number cause range (slice_get constraints number)
constraint_set constraints number cause range c new within at is = rw (here constraints number c within at, is) refl

-- whether the cause is there
pub cause_there : (net : Net) (number cause : ℕ) (c : Constraint) (result : Bool) → number < length net.constraints → c ≡ get_or net.constraints number c
    → (IsTrue result ↔ IsSome (slice_get c.causes cause)) → IsTrue result ↔ IsSome (cause_at net number cause)
cause_there net number cause c result within at told = rw (here net.constraints number c within at) told

-- ---- the range that was there set again

set_at : {A : Type 0} (xs : List A) (i : ℕ) (x : A) → slice_get xs i ≡ Some x → set xs i x ≡ xs
set_at xs i x at = ap (set xs i) (sym (get_or_from_slice_get xs i x x at)) ∙ set-get_or xs i x

set_twice : {A : Type 0} (xs : List A) (i : ℕ) (x y : A) → set (set xs i x) i y ≡ set xs i y
set_twice [] i x y = refl
set_twice (z ∷ xs) zero x y = refl
set_twice (z ∷ xs) (suc i) x y = ap (λ ys. z ∷ ys) (set_twice xs i x y)

set_back : {A : Type 0} (xs : List A) (i : ℕ) (x y : A) → slice_get xs i ≡ Some y → set (set xs i x) i y ≡ xs
set_back xs i x y at = set_twice xs i x y ∙ set_at xs i y at

-- the network with another range for a cause that is there
with_range_is : (net : Net) (number cause : ℕ) (range : Ends) (k : Constraint) (c : Cause) → slice_get net.constraints number ≡ Some k → slice_get k.causes cause ≡ Some c
    → with_range net number cause range ≡ record net { constraints = set net.constraints number (record k { causes = set k.causes cause (record c { range = range }) }) }
with_range_is net number cause range k c at_k at_c = rw (at_k, at_c) refl

pub range_set_again : RangeSetAgain
range_set_again net number cause range c at =
    let own = found (slice_get net.constraints number) cause c at in
    let k : Constraint = own.0 in
    let at_k : slice_get net.constraints number ≡ Some k = own.1 in
    let at_c : slice_get k.causes cause ≡ Some c = own.2 in
    let new : Constraint = record k { causes = set k.causes cause (record c { range = range }) } in
    let once : Net = record net { constraints = set net.constraints number new } in
    let at_new : slice_get once.constraints number ≡ Some new = slice_get_set net.constraints number new k at_k in
    let at_set : slice_get new.causes cause ≡ Some (record c { range = range }) = slice_get_set k.causes cause (record c { range = range }) c at_c in
    let twice : with_range once number cause c.range
    ≡ record net { constraints = set once.constraints number (record k { causes = set new.causes cause c }) } =
    with_range_is once number cause c.range new (record c { range = range }) at_new at_set in
    let causes : set new.causes cause c ≡ k.causes = set_back k.causes cause (record c { range = range }) c at_c in
    let back : set once.constraints number (record k { causes = set new.causes cause c }) ≡ net.constraints =
    ap (λ cs. set once.constraints number (record k { causes = cs })) causes ∙ set_back net.constraints number new k at_k in
    ap (λ n. with_range n number cause c.range) (with_range_is net number cause range k c at_k at_c) ∙ (twice ∙ ap (λ cs. record net { constraints = cs }) back)
