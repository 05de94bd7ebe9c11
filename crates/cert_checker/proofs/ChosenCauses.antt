-- What the table of choices says of a case.
use Rattle.std.proofs.Common.{◌≡◌, ◌==◌, ◌&&◌, ◌||◌, ℕ, Bool, true, false, if◌then◌else◌, eqb, IsTrue, [], ◌∷◌, All, length, Option, Some, None, IsSomeAnd, option_map, refl}
use Rattle.std.specs.Option.{option_eq}
use Rattle.std.proofs.lemmas.Bool.{ne_eqb, eqb-true}
use Rattle.std.proofs.lemmas.List.Elements.{All-head, All-tail}
use Rattle.itv_base.specs.declared.names.EdgeName.{EdgeName}
use Rattle.itv_base.specs.declared.names.RuleKind.{RuleKind}
use Rattle.event_graph.specs.Cases.{IsCase, cause_chosen}
use Rattle.event_graph.specs.Edges.{holds_always}
use Rattle.event_graph.specs.Network.{Constraint, Net}
use Rattle.event_graph.specs.Proof.{Case}
use Rattle.event_graph.proofs.Choices.{IsOther}
use Rattle.cert_checker.specs.Faults.{is_choice_side, is_chosen, may_use}

unchosen : (chosen : Case) (number cause : ℕ) → All (IsOther number) chosen → is_chosen chosen number cause ≡ false
unchosen [] number cause others = refl
unchosen (choice ∷ above) number cause others =
    rw (ne_eqb choice.constraint number (All-head (IsOther number) choice above others), unchosen above number cause (All-tail (IsOther number) choice above others)) refl

-- in a case, the table has a cause if and only if it is chosen
pub chosen_cause : (net : Net) (chosen : Case) (number cause : ℕ) → IsCase net chosen → option_eq eqb (cause_chosen chosen number) (Some cause) ≡ is_chosen chosen number cause
chosen_cause net [] number cause case = refl
chosen_cause net (choice ∷ above) number cause case =
    by_head (choice.constraint == number) choice.cause (cause_chosen above number) (is_chosen above number cause) refl (chosen_cause net above number cause case.2) where
      or_false : (b : Bool) → b ≡ (b || false)
      or_false true = refl
      or_false false = refl

      by_head : (b : Bool) (own : ℕ) (o : Option ℕ) (rest : Bool) → (choice.constraint == number) ≡ b → option_eq eqb o (Some cause) ≡ is_chosen above number cause
          → option_eq eqb (if b then Some own else o) (Some cause) ≡ ((b && (own == cause)) || is_chosen above number cause)
      by_head true own o rest is same =
          let alone : is_chosen above number cause ≡ false = rw (← eqb-true choice.constraint number is) (unchosen above choice.constraint cause case.0.1) in
          rw alone (or_false (own == cause))
      by_head false own o rest is same = same

-- ---- edges that are not always-edges

pub unchosen_unusable : (chosen : Case) (name : EdgeName) (o : Option Constraint) → (IsSomeAnd o (λ c. IsTrue (holds_always c.kind (length c.causes) name.side)) → ⊥)
    → is_chosen chosen name.constraint name.cause ≡ false → may_use chosen name o ≡ false
unchosen_unusable chosen name None not_always out = refl
unchosen_unusable chosen name (Some c) not_always out = rw out (neither (holds_always c.kind (length c.causes) name.side) not_always)
  where
    neither : (b : Bool) → (b ≡ true → ⊥) → (b || false) ≡ false
    neither true is_false = absurd (is_false refl)
    neither false is_false = refl

pub chosen_usable : (chosen : Case) (name : EdgeName) (o : Option Constraint) (kind : RuleKind) → (IsSomeAnd o (λ c. IsTrue (holds_always c.kind (length c.causes) name.side)) → ⊥)
    → is_chosen chosen name.constraint name.cause ≡ true → option_map (λ (c : Constraint). c.kind) o ≡ Some kind → is_choice_side kind name.side ≡ may_use chosen name o
chosen_usable chosen name None kind not_always chosen_here is_kind = absurd (cc)
chosen_usable chosen name (Some c) kind not_always chosen_here is_kind =
    let same : c.kind ≡ kind = cc in
    rw (chosen_here, ← same) (only (holds_always c.kind (length c.causes) name.side) (is_choice_side c.kind name.side) not_always)
  where
    only : (b d : Bool) → (b ≡ true → ⊥) → d ≡ (b || d)
    only true d is_false = absurd (is_false refl)
    only false d is_false = refl
