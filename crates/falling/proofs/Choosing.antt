-- The least number of a choice, and choices of a negation.
use Rattle.std.proofs.Common.{◌≡◌, ◌<◌, ◌≤◌, ◌+◌, ℕ, zero, suc, Bool, true, false, List, [], ◌∷◌, length, map, get_or, drop, Some, None, IfSome, cond, slice_get, refl, sym, ap, ◌∙◌, add-one, arith}
use Rattle.std.specs.List.{position_from}
use Rattle.itv_base.specs.declared.names.RuleKind.{RuleKind}
use Rattle.itv_base.specs.declared.names.RuleKind.TheVariants.{Lin, Late, Early}
use Rattle.event_graph.specs.Network.{Constraint, Net}
use Rattle.falling.specs.Kinds.{first_choice, is_choice, negated, negated_cause, negated_constraint, negated_kind}
use Rattle.falling.proofs.Negating.{length-mapped}

-- whether a constraint is a choice of a kind
abbrev pub is_choice_of : RuleKind → Constraint → Bool
is_choice_of kind c = is_choice kind c.kind (length c.causes)

-- a constraint with a number that is no choice is passed over
pub passed : (kind : RuleKind) (constraints : List Constraint) (number : ℕ) → number < length constraints → IfSome (slice_get constraints number) (λ (c : Constraint). false ≡ is_choice_of kind c)
    → position_from (is_choice_of kind) number (drop number constraints) ≡ position_from (is_choice_of kind) (number + 1) (drop (number + 1) constraints)
passed kind constraints number within is_none = rw add-one (go kind constraints number number within is_none)
  where
    go : (kind : RuleKind) (constraints : List Constraint) (number at : ℕ) → number < length constraints → IfSome (slice_get constraints number) (λ (c : Constraint). false ≡ is_choice_of kind c)
        → position_from (is_choice_of kind) at (drop number constraints) ≡ position_from (is_choice_of kind) (suc at) (drop (suc number) constraints)
    go kind [] number at within is_none = absurd (omega arith)
    go kind (c ∷ cs) zero at within is_none = rw (sym is_none, add-one) refl
    go kind (c ∷ cs) (suc number) at within is_none = go kind cs number at (omega arith) is_none

-- and a constraint that is a choice is the first
pub met : (kind : RuleKind) (constraints : List Constraint) (number : ℕ) → number < length constraints → IfSome (slice_get constraints number) (λ (c : Constraint). true ≡ is_choice_of kind c)
    → position_from (is_choice_of kind) number (drop number constraints) ≡ Some number
met kind constraints number within is_one = go kind constraints number number within is_one
  where
    go : (kind : RuleKind) (constraints : List Constraint) (number at : ℕ) → number < length constraints → IfSome (slice_get constraints number) (λ (c : Constraint). true ≡ is_choice_of kind c)
        → position_from (is_choice_of kind) at (drop number constraints) ≡ Some at
    go kind [] number at within is_one = absurd (omega arith)
    go kind (c ∷ cs) zero at within is_one = rw (sym is_one) refl
    go kind (c ∷ cs) (suc number) at within is_one = go kind cs number at (omega arith) is_one

-- after the last constraint there is no constraint
pub none_left : (kind : RuleKind) (constraints : List Constraint) (number : ℕ) → length constraints ≤ number → position_from (is_choice_of kind) number (drop number constraints) ≡ None
none_left kind constraints number past = go kind constraints number number past
  where
    go : (kind : RuleKind) (constraints : List Constraint) (number at : ℕ) → length constraints ≤ number → position_from (is_choice_of kind) at (drop number constraints) ≡ None
    go kind [] zero at past = refl
    go kind [] (suc number) at past = refl
    go kind (c ∷ cs) zero at past = absurd (omega arith)
    go kind (c ∷ cs) (suc number) at past = go kind cs number at (omega arith)

-- where no choice is found, no constraint is a choice
pub not_choice : (kind : RuleKind) (constraints : List Constraint) (at k : ℕ) (d : Constraint) → k < length constraints → position_from (is_choice_of kind) at constraints ≡ None
    → is_choice_of kind (get_or constraints k d) ≡ false
not_choice kind [] at k d within none = absurd (omega arith)
not_choice kind (c ∷ cs) at zero d within none = first (is_choice_of kind c) none
  where
    first : (b : Bool) → cond b (Some at) (position_from (is_choice_of kind) (at + 1) cs) ≡ None → b ≡ false
    first true none = absurd (cc none)
    first false none = refl
not_choice kind (c ∷ cs) at (suc k) d within none = not_choice kind cs (at + 1) k d (omega arith) (rest (is_choice_of kind c) none)
  where
    rest : (b : Bool) → cond b (Some at) (position_from (is_choice_of kind) (at + 1) cs) ≡ None → position_from (is_choice_of kind) (at + 1) cs ≡ None
    rest true none = absurd (cc none)
    rest false none = none

-- ---- the negation

-- a choice of the negation is a choice of the negated kind
choice-negated : (kind other : RuleKind) (count : ℕ) → is_choice kind (negated_kind other) count ≡ is_choice (negated_kind kind) other count
choice-negated Lin other count = refl
choice-negated Late Lin count = refl
choice-negated Late Late count = refl
choice-negated Late Early count = refl
choice-negated Early Lin count = refl
choice-negated Early Late count = refl
choice-negated Early Early count = refl

-- the least choice has the same number
pub first_choice-negated : (kind : RuleKind) (net : Net) → first_choice kind (negated net) ≡ first_choice (negated_kind kind) net
first_choice-negated kind net = go kind 0 net.constraints
  where
    of : (kind : RuleKind) (c : Constraint) → is_choice_of kind (negated_constraint c) ≡ is_choice_of (negated_kind kind) c
    of kind c = ap (is_choice kind (negated_kind c.kind)) (length-mapped negated_cause c.causes) ∙ choice-negated kind c.kind (length c.causes)

    go : (kind : RuleKind) (at : ℕ) (constraints : List Constraint) → position_from (is_choice_of kind) at (map negated_constraint constraints) ≡ position_from (is_choice_of (negated_kind kind)) at constraints
    go kind at [] = refl
    go kind at (c ∷ cs) = rw (of kind c, go kind (at + 1) cs) refl
