-- Constraints that contradict each other by themselves.
use Rattle.std.proofs.Common.{◌≡◌, ◌≤◌, ◌+◌, ℕ, Bool, true, false, List, [], ◌∷◌, length, replicate, Option, Some, None, slice_get, refl, sym, subst, arith}
use Rattle.std.specs.Prelude.{IsSomeAnd}
use Rattle.std.proofs.lemmas.List.{get_or-replicate, length-append}
use Rattle.std.proofs.lemmas.List.Elements.{All-push}
use Rattle.std.proofs.lemmas.Option.{get_or_from_slice_get}
use Rattle.event_graph.specs.Bounds.{IsInconsistent}
use Rattle.event_graph.specs.Network.{Constraint, Net, with_constraint}
use Rattle.event_graph.specs.Satisfying.{Holds, Satisfies}
use Rattle.chains.specs.Named.{IsContradiction, IsIn}
use Rattle.extremes.specs.Step.{AllowsAll}
use Rattle.itv_base.proofs.Lists.{found_below}

-- the constraints of a set among the first ones, in a network of their own
pub record ArePart (net : Net) (set : List Bool) (count : ℕ) (part : Net) : Type 0 where
  pub events : part.events ≡ net.events
  pub wider : AllowsAll net set part
  pub few : length part.constraints ≤ count

pub no_part : (net : Net) (set : List Bool) (part : Net) → part ≡ record { events = net.events; constraints = [] } → ArePart net set 0 part
no_part net set part is = record {
  events = rw is refl;
  wider = λ times sat. rw is (record { count = sat.count; each = λ k d within. absurd (omega (arith, within)) });
  few = rw is (omega arith);
}

pushed : (net : Net) (set : List Bool) (number : ℕ) (part after : Net) (o : Option Constraint) → slice_get net.constraints number ≡ o → IsIn set number → AllowsAll net set part
    → IsSomeAnd o (λ c. after ≡ with_constraint part c) → AllowsAll net set after
pushed net set number part after None at is_in wider added = absurd added
pushed net set number part after (Some c) at is_in wider added = λ times sat.
    let before : Satisfies times part = wider times sat in
    subst (λ (n : Net). Satisfies times n) (sym added)
    (record { count = before.count; each = All-push (Holds times) part.constraints c before.each (sat.each number c is_in at) })

counted : (c : Constraint) (part after : Net) (count : ℕ) → after ≡ with_constraint part c → length part.constraints ≤ count → length after.constraints ≤ count + 1
counted c part after count added few = rw (added, length-append part.constraints (c ∷ [])) (omega (arith, few))

same_events : (c : Constraint) (net part after : Net) → after ≡ with_constraint part c → part.events ≡ net.events → after.events ≡ net.events
same_events c net part after added same = rw added same

more_by : (net : Net) (set : List Bool) (number : ℕ) (part after : Net) (o : Option Constraint) → slice_get net.constraints number ≡ o → ArePart net set number part → IsIn set number
    → IsSomeAnd o (λ c. after ≡ with_constraint part c) → ArePart net set (number + 1) after
more_by net set number part after None at are is_in added = absurd added
more_by net set number part after (Some c) at are is_in added = record {
  events = same_events c net part after added are.events;
  wider = pushed net set number part after (Some c) at is_in are.wider added;
  few = counted c part after number added are.few;
}

-- one more constraint
pub part_more : (net : Net) (set : List Bool) (number : ℕ) (part pushed_to after : Net) → after ≡ pushed_to → ArePart net set number part → IsIn set number
    → IsSomeAnd (slice_get net.constraints number) (λ c. pushed_to ≡ with_constraint part c) → ArePart net set (number + 1) after
part_more net set number part pushed_to after same are is_in added =
    subst (ArePart net set (number + 1)) (sym same) (more_by net set number part pushed_to (slice_get net.constraints number) refl are is_in added)

-- one constraint that is left out
pub part_left : (net : Net) (set : List Bool) (number : ℕ) (part after : Net) → after ≡ part → ArePart net set number part → ArePart net set (number + 1) after
part_left net set number part after same are =
    subst (ArePart net set (number + 1)) (sym same) (record { events = are.events; wider = are.wider; few = omega (arith, are.few) })

-- where no times satisfy the network of a set, its constraints contradict each other
pub part_contradicts : (net part : Net) (set : List Bool) → AllowsAll net set part → IsInconsistent part → IsContradiction net set
part_contradicts net part set wider none = λ times sat. none times (wider times sat)

-- all constraints of a network that no times satisfy contradict each other
pub all_contradict : (net : Net) (set : List Bool) → set ≡ replicate (length net.constraints) true → IsInconsistent net → IsContradiction net set
all_contradict net set is none = λ times sat. none times (record {
  count = sat.count;
  each = λ k d within.
      let f = found_below net.constraints k within in
      let is_in : IsIn set k = subst (λ xs. IsIn xs k) (sym is) (get_or-replicate (length net.constraints) k true false within) in
      subst (Holds times) (sym (get_or_from_slice_get net.constraints k f.0 d f.1)) (sat.each k f.0 is_in f.1);
})
