-- How many causes a constraint has, and which one a number names.
use Rattle.std.proofs.Common.{◌≤◌, ℕ, sym, subst, arith, ◌≡◌, refl, max, Option, Some, option_map, ◌<◌, length, slice_get, ap}
use Rattle.std.proofs.lemmas.Option.{same_Some}
use Rattle.itv_base.specs.declared.limits.TheConstants.{MAX_CAUSES}
use Rattle.itv_base.specs.declared.names.RuleKind.{RuleKind}
use Rattle.itv_base.specs.declared.names.RuleKind.TheVariants.{Lin, Late, Early}
use Rattle.itv_base.specs.declared.names.EventId.{EventId}
use Rattle.event_graph.specs.Network.{IsCauseCount, named_causes, Constraint, Net, cause_at}
use Rattle.event_graph.specs.Proof.{HasChoice}
use Rattle.event_graph.specs.declared.cause.Cause.{Cause}

pub few_causes : (kind : RuleKind) (n : ℕ) → IsCauseCount kind n → n ≤ MAX_CAUSES
few_causes Lin n is = subst (λ m. m ≤ MAX_CAUSES) (sym is) (omega arith)
few_causes Late n is = is.1
few_causes Early n is = is.1

pub named_all : (kind : RuleKind) (count : ℕ) → HasChoice kind → named_causes kind count ≡ count
named_all Lin count has = absurd has
named_all Late count has = refl
named_all Early count has = refl

pub named_most : (kind : RuleKind) (count : ℕ) → named_causes kind count ≤ count
named_most Lin count = omega arith
named_most Late count = omega arith
named_most Early count = omega arith

-- a constraint has at most as many causes as it names, or one if it names none
pub count_most : (kind : RuleKind) (count : ℕ) → IsCauseCount kind count → count ≤ max (named_causes kind count) 1
count_most Lin count h = omega arith
count_most Late count h = omega arith
count_most Early count h = omega arith

-- a number that an option maps to
pub counted_is : (f : Constraint → ℕ) (o : Option Constraint) (k : Constraint) (count : ℕ) → option_map f o ≡ Some count → o ≡ Some k → f k ≡ count
counted_is f o k count counted is = same_Some (f k) count (rw is at counted)

-- the number of a cause is below the number of causes, or the constraint is linear and the cause is its one cause
pub cause_within : (kind : RuleKind) (cause length count : ℕ) → cause < length → IsCauseCount kind length → named_causes kind length ≡ count → cause < max count 1
cause_within Lin cause length count below is named = omega arith
cause_within Late cause length count below is named = omega arith
cause_within Early cause length count below is named = omega arith

-- a cause of a list is a cause of the constraint
pub cause_is : (net : Net) (number i : ℕ) (k : Constraint) (c : Cause) → slice_get net.constraints number ≡ Some k → slice_get k.causes i ≡ Some c → cause_at net number i ≡ Some c
cause_is net number i k c at_k at_c = rw (at_k, at_c) refl

pub same_event : (a b : EventId) → a.0 ≡ b.0 → a ≡ b
same_event a b same = ap (λ (n : ℕ). record { 0 = n }) same
