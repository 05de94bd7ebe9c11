-- What a reader answers to a text, according to the labels that the text spells.
use Rattle.std.proofs.Common.{◌≡◌, ℕ, Bool, true, false, cond, List, Option, Some, None, Result, Ok, Err, refl, ap, subst, ◌∙◌, ◌↔◌}
use Rattle.std.specs.Prelude.{IfOk, IsOkAnd, IsErrOf}
use Rattle.label_grammar.specs.declared.label.LabelFault.{LabelFault}
use Rattle.label_grammar.specs.declared.label.LabelFault.TheVariants.{BadLabel, TooWide, EmptyRange}
use Rattle.label_grammar.specs.Label.{LooseLabel, Version, IsLoose, IsProper, has_wide_end, has_reversed_ends, spelling}
use Rattle.label_grammar.specs.Reading.{label_of}
use Rattle.label_grammar.specs.Answer.{judged_label, LabelAgrees, IsUnspelled, SpellsWideEnd, SpellsReversedEnds}
use Rattle.label_grammar.proofs.Pieces.{Inverts}
use Rattle.label_grammar.proofs.Whole.{label_takes, label_again}

module _ {E : Type 0} (v : Version E) (reading : List ℕ → Option (E × List ℕ)) (inverts : Inverts v reading) where
  abbrev Judgement : Type 0
  Judgement = Result (LooseLabel E) LabelFault

  -- ---- a label that was judged

  abbrev chosen : Bool → Bool → LooseLabel E → Judgement
  chosen wide reversed l = cond wide (Err TooWide) (cond reversed (Err EmptyRange) (Ok l))

  chosen_ok : (wide reversed : Bool) (l m : LooseLabel E) → chosen wide reversed l ≡ Ok m → (wide ≡ false) × (reversed ≡ false) × (l ≡ m)
  chosen_ok true reversed l m e = absurd cc
  chosen_ok false true l m e = absurd cc
  chosen_ok false false l m e = (refl, refl, cc)

  chosen_wide : (wide reversed : Bool) (l : LooseLabel E) → chosen wide reversed l ≡ Err TooWide → wide ≡ true
  chosen_wide true reversed l e = refl
  chosen_wide false true l e = absurd cc
  chosen_wide false false l e = absurd cc

  chosen_reversed : (wide reversed : Bool) (l : LooseLabel E) → chosen wide reversed l ≡ Err EmptyRange → (wide ≡ false) × (reversed ≡ true)
  chosen_reversed true reversed l e = absurd cc
  chosen_reversed false true l e = (refl, refl)
  chosen_reversed false false l e = absurd cc

  chosen_bad : (wide reversed : Bool) (l : LooseLabel E) → chosen wide reversed l ≡ Err BadLabel → ⊥
  chosen_bad true reversed l e = absurd cc
  chosen_bad false true l e = absurd cc
  chosen_bad false false l e = absurd cc

  -- ---- from the judgement to the text

  pub spells_proper : (text : List ℕ) (o : Option (LooseLabel E)) (l : LooseLabel E) → label_of reading text ≡ o → judged_label v.outright o ≡ Ok l → IsProper v l × (text ≡ spelling v l)
  spells_proper text None l read e = absurd cc
  spells_proper text (Some m) l read e =
      let takes = label_takes v reading inverts text m read in
      let c = chosen_ok (has_wide_end v m) (has_reversed_ends v m) m l e in
      subst (λ (x : LooseLabel E). IsProper v x × (text ≡ spelling v x)) c.2 (record { loose = takes.0; narrow = c.0; ordered = c.1 }, takes.1)

  pub spells_wide : (text : List ℕ) (o : Option (LooseLabel E)) → label_of reading text ≡ o → judged_label v.outright o ≡ Err TooWide → SpellsWideEnd v text
  spells_wide text None read e = absurd cc
  spells_wide text (Some l) read e =
      let takes = label_takes v reading inverts text l read in
      record { label = l; loose = takes.0; spelled = takes.1; wide = chosen_wide (has_wide_end v l) (has_reversed_ends v l) l e }

  pub spells_reversed : (text : List ℕ) (o : Option (LooseLabel E)) → label_of reading text ≡ o → judged_label v.outright o ≡ Err EmptyRange → SpellsReversedEnds v text
  spells_reversed text None read e = absurd cc
  spells_reversed text (Some l) read e =
      let takes = label_takes v reading inverts text l read in
      let c = chosen_reversed (has_wide_end v l) (has_reversed_ends v l) l e in
      record { label = l; loose = takes.0; spelled = takes.1; narrow = c.0; reversed = c.1 }

  pub spells_none : (text : List ℕ) (o : Option (LooseLabel E)) → label_of reading text ≡ o → judged_label v.outright o ≡ Err BadLabel → IsUnspelled v text
  spells_none text None read e = λ l loose spelled. absurd (let again = label_again v reading inverts l loose in let is = ap (label_of reading) spelled in cc)
  spells_none text (Some l) read e = absurd (chosen_bad (has_wide_end v l) (has_reversed_ends v l) l e)

  -- ---- from the text to the judgement

  read_is : (text : List ℕ) (l : LooseLabel E) → IsLoose v l → text ≡ spelling v l → label_of reading text ≡ Some l
  read_is text l loose spelled = ap (label_of reading) spelled ∙ label_again v reading inverts l loose

  pub judged_proper : (text : List ℕ) (l : LooseLabel E) → IsProper v l → text ≡ spelling v l → judged_label v.outright (label_of reading text) ≡ Ok l
  judged_proper text l proper spelled = rw (read_is text l proper.loose spelled, proper.narrow, proper.ordered) refl

  pub judged_wide : (text : List ℕ) → SpellsWideEnd v text → judged_label v.outright (label_of reading text) ≡ Err TooWide
  judged_wide text s = rw (read_is text s.label s.loose s.spelled, s.wide) refl

  pub judged_reversed : (text : List ℕ) → SpellsReversedEnds v text → judged_label v.outright (label_of reading text) ≡ Err EmptyRange
  judged_reversed text s = rw (read_is text s.label s.loose s.spelled, s.narrow, s.reversed) refl

  pub judged_bad : (text : List ℕ) → IsUnspelled v text → judged_label v.outright (label_of reading text) ≡ Err BadLabel
  judged_bad text none = bad_at (label_of reading text) refl
    where
      bad_at : (o : Option (LooseLabel E)) → label_of reading text ≡ o → judged_label v.outright o ≡ Err BadLabel
      bad_at None read = refl
      bad_at (Some l) read = let takes = label_takes v reading inverts text l read in absurd (none l takes.0 takes.1)

  -- ---- the answer

  module _ {R : Type 0} (view : R → LooseLabel E) where
    -- the judgement fixes the answer, and the answer the judgement
    err_is : (fault : LabelFault) (r : Result R LabelFault) (j : Judgement) → LabelAgrees view r j → j ≡ Err fault → IsErrOf r fault
    err_is fault (Ok l) j given e = absurd cc
    err_is fault (Err f) j given e = cc

    from_err : (fault : LabelFault) (r : Result R LabelFault) (j : Judgement) → LabelAgrees view r j → IsErrOf r fault → j ≡ Err fault
    from_err fault (Ok l) j given e = absurd cc
    from_err fault (Err f) j given e = cc

    ok_is : (l : LooseLabel E) (r : Result R LabelFault) (j : Judgement) → LabelAgrees view r j → j ≡ Ok l → IsOkAnd r (λ found. view found ≡ l)
    ok_is l (Ok found) j given e = cc
    ok_is l (Err f) j given e = absurd cc

    module _ (text : List ℕ) (r : Result R LabelFault) (given : LabelAgrees view r (judged_label v.outright (label_of reading text))) where
      pub answers_ok : IfOk r (λ l. IsProper v (view l) × (text ≡ spelling v (view l)))
      answers_ok = ok_at r given
        where
          ok_at : (r : Result R LabelFault) → LabelAgrees view r (judged_label v.outright (label_of reading text)) → IfOk r (λ l. IsProper v (view l) × (text ≡ spelling v (view l)))
          ok_at (Ok l) given = spells_proper text (label_of reading text) (view l) refl given
          ok_at (Err fault) given = tt

      pub answers_only : (l : LooseLabel E) → IsProper v l → text ≡ spelling v l → IsOkAnd r (λ found. view found ≡ l)
      answers_only l proper spelled = ok_is l r (judged_label v.outright (label_of reading text)) given (judged_proper text l proper spelled)

      pub answers_bad : IsErrOf r BadLabel ↔ IsUnspelled v text
      answers_bad = (λ e. spells_none text (label_of reading text) refl (from_err BadLabel r (judged_label v.outright (label_of reading text)) given e), λ none. err_is BadLabel r (judged_label v.outright (label_of reading text)) given (judged_bad text none))

      pub answers_wide : IsErrOf r TooWide ↔ SpellsWideEnd v text
      answers_wide = (λ e. spells_wide text (label_of reading text) refl (from_err TooWide r (judged_label v.outright (label_of reading text)) given e), λ s. err_is TooWide r (judged_label v.outright (label_of reading text)) given (judged_wide text s))

      pub answers_reversed : IsErrOf r EmptyRange ↔ SpellsReversedEnds v text
      answers_reversed = (λ e. spells_reversed text (label_of reading text) refl (from_err EmptyRange r (judged_label v.outright (label_of reading text)) given e), λ s. err_is EmptyRange r (judged_label v.outright (label_of reading text)) given (judged_reversed text s))
