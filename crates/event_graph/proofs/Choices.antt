-- Which constraints are split by the choices of a case.
use Rattle.std.proofs.Common.{◌≡◌, ◌==◌, ◌||◌, ℕ, Bool, true, false, if◌then◌else◌, [], ◌∷◌, All, Option, Some, None, is_some, sym, ap, ◌∙◌, refl}
use Rattle.std.proofs.lemmas.Bool.{eq-eqb, ne_eqb, or_from, or_parts, true≢false}
use Rattle.std.proofs.lemmas.List.Elements.{All-cons, All-head, All-nil, All-tail}
use Rattle.event_graph.specs.Cases.{cause_chosen, is_split}
use Rattle.event_graph.specs.Proof.{Case, Choice}

abbrev pub IsOther : ℕ → Choice → Type 0
IsOther number choice = choice.constraint ≡ number → ⊥

pub others_unsplit : (chosen : Case) (number : ℕ) → All (IsOther number) chosen → is_split chosen number ≡ false
others_unsplit [] number h = refl
others_unsplit (choice ∷ above) number h =
    or_from (choice.constraint == number) (is_split above number) (ne_eqb choice.constraint number (All-head (IsOther number) choice above h))
    (others_unsplit above number (All-tail (IsOther number) choice above h))

pub unsplit_others : (chosen : Case) (number : ℕ) → is_split chosen number ≡ false → All (IsOther number) chosen
unsplit_others [] number h = All-nil (IsOther number)
unsplit_others (choice ∷ above) number h =
    let parts = or_parts (choice.constraint == number) (is_split above number) h in
    All-cons (IsOther number) choice above (λ same. true≢false (sym (eq-eqb choice.constraint number same) ∙ parts.0)) (unsplit_others above number parts.1)

-- a choice of another constraint does not change whether a constraint is split
pub split-other : (number other cause : ℕ) (chosen : Case) → (other ≡ number → ⊥) → is_split ((record { constraint = other; cause = cause }) ∷ chosen) number ≡ is_split chosen number
split-other number other cause chosen apart = rw (ne_eqb other number apart) refl

pub split-same : (number other cause : ℕ) (chosen : Case) → other ≡ number → is_split ((record { constraint = other; cause = cause }) ∷ chosen) number ≡ true
split-same number other cause chosen same = rw (eq-eqb other number same) refl

-- a constraint is split if and only if a cause of it is chosen
pub split_cause : (chosen : Case) (number : ℕ) → is_some (cause_chosen chosen number) ≡ is_split chosen number
split_cause [] number = refl
split_cause (choice ∷ above) number = by_head (choice.constraint == number) choice.cause (cause_chosen above number) (is_split above number) (split_cause above number) where
  by_head : (b : Bool) (cause : ℕ) (o : Option ℕ) (split : Bool) → is_some o ≡ split → is_some (if b then Some cause else o) ≡ (b || split)
  by_head true cause o split rest = refl
  by_head false cause o split rest = rest

-- so no cause of a constraint is chosen if and only if all choices are of other constraints
pub free_others : (chosen : Case) (number : ℕ) → cause_chosen chosen number ≡ None → All (IsOther number) chosen
free_others chosen number free = unsplit_others chosen number (sym (split_cause chosen number) ∙ ap is_some free)

none_some : {X : Type 0} (o : Option X) → is_some o ≡ false → o ≡ None
none_some None h = refl
none_some (Some x) h = absurd (cc)

pub others_free : (chosen : Case) (number : ℕ) → All (IsOther number) chosen → cause_chosen chosen number ≡ None
others_free chosen number others = none_some (cause_chosen chosen number) (split_cause chosen number ∙ others_unsplit chosen number others)
