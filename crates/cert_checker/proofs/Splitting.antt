-- Splits of a case, by the number of causes that a constraint names.
use Rattle.std.proofs.Common.{◌≡◌, ℕ, true, false, length, Option, Some, None, IsSomeAnd, option_map, slice_get, sym, ◌∙◌, refl, arith}
use Rattle.itv_base.specs.declared.names.RuleKind.{RuleKind}
use Rattle.itv_base.specs.declared.names.RuleKind.TheVariants.{Lin, Late, Early}
use Rattle.event_graph.specs.Cases.{IsCase, first_of, is_split}
use Rattle.event_graph.specs.Network.{Constraint, Net, cause_count_of, named_causes}
use Rattle.event_graph.specs.Proof.{Case, HasChoice, MaySplit, count_causes}
use Rattle.event_graph.proofs.Causes.{named_all}
use Rattle.cert_checker.specs.declared.check_fault.CheckFault.TheVariants.{AlreadySplit}
use Rattle.cert_checker.specs.Faults.{fault_of_constraint, fault_of_split}
use Rattle.cert_checker.proofs.Deciding.{has_true, split_none}

-- ---- numbers of causes

-- a constraint with causes to choose from names all of them
pub count_is : (o : Option Constraint) (count : ℕ) → IsSomeAnd o (λ c. HasChoice c.kind) → option_map cause_count_of o ≡ Some count → count_causes o ≡ count
count_is None count has is = absurd has
count_is (Some c) count has is =
    let named : cause_count_of c ≡ count = cc in
    sym (named_all c.kind (length c.causes) has) ∙ named

named_some : (kind : RuleKind) (count : ℕ) → (named_causes kind count ≡ 0 → ⊥) → HasChoice kind
named_some Lin count some = absurd (some refl)
named_some Late count some = tt
named_some Early count some = tt

some_choice : (o : Option Constraint) (count : ℕ) → option_map cause_count_of o ≡ Some count → (count ≡ 0 → ⊥) → IsSomeAnd o (λ c. HasChoice c.kind)
some_choice None count is some = absurd (cc)
some_choice (Some c) count is some =
    let named : cause_count_of c ≡ count = cc in
    named_some c.kind (length c.causes) (λ none. some (sym named ∙ none))

-- ---- splits

again : (o : Option Constraint) → IsSomeAnd o (λ c. HasChoice c.kind) → fault_of_constraint o true ≡ Some AlreadySplit
again None has = absurd has
again (Some c) has = rw (has_true c.kind has) refl

fresh : (o : Option Constraint) → IsSomeAnd o (λ c. HasChoice c.kind) → fault_of_constraint o false ≡ None
fresh None has = absurd has
fresh (Some c) has = rw (has_true c.kind has) refl

pub split_again : (net : Net) (chosen : Case) (number count : ℕ) → option_map cause_count_of (slice_get net.constraints number) ≡ Some count → (count ≡ 0 → ⊥)
    → is_split chosen number ≡ true → fault_of_split net chosen number ≡ Some AlreadySplit
split_again net chosen number count is some split = rw split (again (slice_get net.constraints number) (some_choice (slice_get net.constraints number) count is some))

pub split_fresh : (net : Net) (chosen : Case) (number count : ℕ) → option_map cause_count_of (slice_get net.constraints number) ≡ Some count → (count ≡ 0 → ⊥)
    → is_split chosen number ≡ false → fault_of_split net chosen number ≡ None
split_fresh net chosen number count is some split = rw split (fresh (slice_get net.constraints number) (some_choice (slice_get net.constraints number) count is some))

-- the case of the first cause
pub split_case : (net : Net) (chosen : Case) (number count : ℕ) → option_map cause_count_of (slice_get net.constraints number) ≡ Some count → (count ≡ 0 → ⊥)
    → is_split chosen number ≡ false → IsCase net chosen → IsCase net (first_of number chosen)
split_case net chosen number count is some split case =
    let may : MaySplit net chosen number = split_none net chosen number (split_fresh net chosen number count is some split) in
    let causes : count_causes (slice_get net.constraints number) ≡ count = count_is (slice_get net.constraints number) count may.0 is in
    (may, omega arith, case)
