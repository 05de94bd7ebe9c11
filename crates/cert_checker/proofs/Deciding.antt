-- What the tests of faults decide.
use Rattle.std.proofs.Common.{◌≡◌, ◌==◌, ◌&&◌, ◌⊎◌, inl, inr, ℕ, zero, suc, Bool, true, false, if◌then◌else◌, IsTrue, [], ◌∷◌, Contains, length, Option, Some, None, IsSomeAnd, slice_get, sym, ap, ◌∙◌, refl, subst, arith}
use Rattle.std.specs.Option.{option_or}
use Rattle.std.proofs.lemmas.Bool.{and_from, and_parts, eq-eqb, eqb-true, or_cases, or_left, or_right}
use Rattle.itv_base.specs.declared.names.EdgeName.{EdgeName}
use Rattle.itv_base.specs.declared.names.RuleKind.{RuleKind}
use Rattle.itv_base.specs.declared.names.RuleKind.TheVariants.{Lin, Late, Early}
use Rattle.itv_base.specs.declared.names.Side.{Side}
use Rattle.itv_base.specs.declared.names.Side.TheVariants.{Lower, Upper}
use Rattle.event_graph.specs.declared.edge.Edge.{Edge}
use Rattle.event_graph.specs.Cases.{is_split}
use Rattle.event_graph.specs.Edges.{choice_side, edge, holds_always}
use Rattle.event_graph.specs.Network.{Constraint, Net}
use Rattle.event_graph.specs.Proof.{Case, Choice, HasChoice, IsUsable, MaySplit}
use Rattle.event_graph.proofs.Choices.{others_unsplit, unsplit_others}
use Rattle.cert_checker.specs.declared.check_fault.CheckFault.{CheckFault}
use Rattle.cert_checker.specs.declared.check_fault.CheckFault.TheVariants.{AlreadySplit, NoSuchConstraint}
use Rattle.cert_checker.specs.Faults.{fault_of_constraint, fault_of_split, has_choice, is_choice_side, is_chosen, is_usable, may_use}

-- ---- tests that return a fault or none

pub if_none : (b : Bool) (fault : CheckFault) → (if b then None else Some fault) ≡ None → b ≡ true
if_none true fault h = refl
if_none false fault h = absurd (cc)

pub first_none : {X : Type 0} (a b : Option X) → option_or a b ≡ None → (a ≡ None) × (b ≡ None)
first_none None b h = (refl, h)
first_none (Some x) b h = absurd (cc)

pub none_first : {X : Type 0} (a b : Option X) → a ≡ None → b ≡ None → option_or a b ≡ None
none_first None b no_a no_b = no_b
none_first (Some x) b no_a no_b = absurd (cc)

pub and_some : {X : Type 0} (o : Option X) (P : X → Type 0) (x : X) → o ≡ Some x → P x → IsSomeAnd o P
and_some {X = X} o P x is h = subst (λ (v : Option X). IsSomeAnd v P) (sym is) h

-- ---- kinds and sides

pub choice_has : (kind : RuleKind) → has_choice kind ≡ true → HasChoice kind
choice_has Lin h = absurd (cc)
choice_has Late h = tt
choice_has Early h = tt

pub has_true : (kind : RuleKind) → HasChoice kind → has_choice kind ≡ true
has_true Lin h = absurd h
has_true Late h = refl
has_true Early h = refl

choice_side_of : (kind : RuleKind) (side : Side) → is_choice_side kind side ≡ true → HasChoice kind × (side ≡ choice_side kind)
choice_side_of Lin side h = absurd (cc)
choice_side_of Late Lower h = absurd (cc)
choice_side_of Late Upper h = (tt, refl)
choice_side_of Early Lower h = (tt, refl)
choice_side_of Early Upper h = absurd (cc)

is_side_at : (kind : RuleKind) → HasChoice kind → is_choice_side kind (choice_side kind) ≡ true
is_side_at Lin h = absurd h
is_side_at Late h = refl
is_side_at Early h = refl

-- ---- what is chosen

same_choice : (choice : Choice) (number cause : ℕ) → choice.constraint ≡ number → choice.cause ≡ cause → choice ≡ record { constraint = number; cause = cause }
same_choice choice number cause same_number same_cause =
    let by_constraint : ℕ → Choice = λ n. record { constraint = n; cause = choice.cause } in
    let by_cause : ℕ → Choice = λ n. record { constraint = number; cause = n } in
    ap by_constraint same_number ∙ ap by_cause same_cause

pub chosen_contains : (chosen : Case) (number cause : ℕ) → is_chosen chosen number cause ≡ true → Contains chosen (record { constraint = number; cause = cause })
chosen_contains [] number cause h = absurd (cc)
chosen_contains (choice ∷ above) number cause h =
    elim (or_cases ((choice.constraint == number) && (choice.cause == cause)) (is_chosen above number cause) h) [
      | inl here ↦
          let parts = and_parts (choice.constraint == number) (choice.cause == cause) here in
          (0, omega arith, same_choice choice number cause (eqb-true choice.constraint number parts.0) (eqb-true choice.cause cause parts.1))
      | inr later ↦ let (k, within, at) = chosen_contains above number cause later in (suc k, omega arith, at)
    ]

pub contains_chosen : (chosen : Case) (number cause : ℕ) → Contains chosen (record { constraint = number; cause = cause }) → is_chosen chosen number cause ≡ true
contains_chosen [] number cause (k, within, at) = absurd (omega arith)
contains_chosen (choice ∷ above) number cause (zero, within, at) =
    or_left ((choice.constraint == number) && (choice.cause == cause)) (is_chosen above number cause)
    (and_from (choice.constraint == number) (choice.cause == cause) (eq-eqb choice.constraint number (ap (λ (x : Choice). x.constraint) at))
    (eq-eqb choice.cause cause (ap (λ (x : Choice). x.cause) at)))
contains_chosen (choice ∷ above) number cause (suc k, within, at) =
    or_right ((choice.constraint == number) && (choice.cause == cause)) (is_chosen above number cause) (contains_chosen above number cause (k, omega arith, at))

-- ---- splits

pub constraint_none : (o : Option Constraint) (split : Bool) → fault_of_constraint o split ≡ None → IsSomeAnd o (λ c. HasChoice c.kind) × (split ≡ false)
constraint_none None split h = absurd (cc)
constraint_none (Some c) split h = by_test (has_choice c.kind) split refl h where
  by_test : (has split : Bool) → has_choice c.kind ≡ has → (if has then (if split then Some AlreadySplit else None) else Some NoSuchConstraint) ≡ None
      → HasChoice c.kind × (split ≡ false)
  by_test true true is h = absurd (cc)
  by_test true false is h = (choice_has c.kind is, refl)
  by_test false split is h = absurd (cc)

none_constraint : (o : Option Constraint) (split : Bool) → IsSomeAnd o (λ c. HasChoice c.kind) → split ≡ false → fault_of_constraint o split ≡ None
none_constraint None split has unsplit = absurd has
none_constraint (Some c) split has unsplit = rw (has_true c.kind has, unsplit) refl

pub split_none : (net : Net) (chosen : Case) (number : ℕ) → fault_of_split net chosen number ≡ None → MaySplit net chosen number
split_none net chosen number h =
    let parts = constraint_none (slice_get net.constraints number) (is_split chosen number) h in
    (parts.0, unsplit_others chosen number parts.1)

pub none_split : (net : Net) (chosen : Case) (number : ℕ) → MaySplit net chosen number → fault_of_split net chosen number ≡ None
none_split net chosen number may = none_constraint (slice_get net.constraints number) (is_split chosen number) may.0 (others_unsplit chosen number may.1)

-- ---- edges that may be used

usable_by : (chosen : Case) (name : EdgeName) (o : Option Constraint) → may_use chosen name o ≡ true
    → IsSomeAnd o (λ c. IsTrue (holds_always c.kind (length c.causes) name.side))
    ⊎ (Contains chosen (record { constraint = name.constraint; cause = name.cause }) × IsSomeAnd o (λ c. HasChoice c.kind × (name.side ≡ choice_side c.kind)))
usable_by chosen name None h = absurd (cc)
usable_by chosen name (Some c) h =
    elim (or_cases (holds_always c.kind (length c.causes) name.side) (is_chosen chosen name.constraint name.cause && is_choice_side c.kind name.side) h) [
      | inl always ↦ inl always
      | inr choice ↦
          let parts = and_parts (is_chosen chosen name.constraint name.cause) (is_choice_side c.kind name.side) choice in
          inr (chosen_contains chosen name.constraint name.cause parts.0, choice_side_of c.kind name.side parts.1)
    ]

always_usable : (chosen : Case) (name : EdgeName) (o : Option Constraint) → IsSomeAnd o (λ c. IsTrue (holds_always c.kind (length c.causes) name.side))
    → may_use chosen name o ≡ true
always_usable chosen name None h = absurd h
always_usable chosen name (Some c) h =
    or_left (holds_always c.kind (length c.causes) name.side) (is_chosen chosen name.constraint name.cause && is_choice_side c.kind name.side) h

choice_usable : (chosen : Case) (name : EdgeName) (o : Option Constraint) → Contains chosen (record { constraint = name.constraint; cause = name.cause })
    → IsSomeAnd o (λ c. HasChoice c.kind × (name.side ≡ choice_side c.kind)) → may_use chosen name o ≡ true
choice_usable chosen name None contains h = absurd h
choice_usable chosen name (Some c) contains h =
    or_right (holds_always c.kind (length c.causes) name.side) (is_chosen chosen name.constraint name.cause && is_choice_side c.kind name.side)
    (and_from (is_chosen chosen name.constraint name.cause) (is_choice_side c.kind name.side) (contains_chosen chosen name.constraint name.cause contains)
    (rw h.1 (is_side_at c.kind h.0)))

pub usable_is : (net : Net) (chosen : Case) (name : EdgeName) (e : Edge) → edge net name ≡ Some e → is_usable net chosen name ≡ true → IsUsable net chosen name
usable_is net chosen name e is_edge h =
    elim (usable_by chosen name (slice_get net.constraints name.constraint) h) [
      | inl always ↦ inl (rw is_edge refl, always)
      | inr choice ↦ inr choice
    ]

pub is_usable_of : (net : Net) (chosen : Case) (name : EdgeName) → IsUsable net chosen name → is_usable net chosen name ≡ true
is_usable_of net chosen name (inl always) = always_usable chosen name (slice_get net.constraints name.constraint) always.1
is_usable_of net chosen name (inr choice) = choice_usable chosen name (slice_get net.constraints name.constraint) choice.0 choice.1
