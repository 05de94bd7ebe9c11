-- Reading a set of events, event by event: the flags that were read stand before the flags that are still to be read.
use Rattle.std.proofs.Common.{◌≡◌, ◌+◌, ◌-◌, ◌<◌, ◌≤◌, ℕ, suc, Bool, true, false, cond, List, [], ◌∷◌, ◌++◌, length, drop, Bor, Option, Some, None, option_map, refl, sym, ap, ◌∙◌, arith, inl, inr, append_assoc, append-nil}
use Rattle.std.proofs.lemmas.Bool.{cases_lt}
use Rattle.itv_base.specs.Numerals.{number_text}
use Rattle.line_words.specs.Views.{texts}
use Rattle.line_words.specs.Words.{Word, is_word}
use Rattle.line_words.proofs.Looping.{in_front, texts_more, texts_none}
use Rattle.slack_report.specs.Reading.{flags_in}
use Rattle.slack_report.specs.Step.Cuts.{stands_first}

-- the words after the first one if the first one was the number's text, and otherwise all words
abbrev passed : Bool → List Word → List Word
passed flag words = cond flag (drop 1 words) words

one_flag : (left number : ℕ) (words : List Word) (flag : Bool) → flag ≡ stands_first (number_text number) words
    → flags_in (suc left) number words ≡ option_map (λ set. flag ∷ set) (flags_in left (number + 1) (passed flag words))
one_flag left number [] flag is = rw is refl
one_flag left number (word ∷ words) flag is = at_flag flag is
  where
    at_flag : (flag : Bool) → flag ≡ is_word word (number_text number)
        → cond (is_word word (number_text number)) (option_map (λ set. true ∷ set) (flags_in left (number + 1) words)) (option_map (λ set. false ∷ set) (flags_in left (number + 1) (word ∷ words)))
        ≡ option_map (λ set. flag ∷ set) (flags_in left (number + 1) (passed flag (word ∷ words)))
    at_flag true e = rw (← e) refl
    at_flag false e = rw (← e) refl

pub flag_in_front : (set : List Bool) (flag : Bool) (o : Option (List Bool)) → in_front set (option_map (λ rest. flag ∷ rest) o) ≡ in_front (set ++ flag ∷ []) o
flag_in_front set flag None = refl
flag_in_front set flag (Some rest) = ap (λ ys. Some ys) (sym (append_assoc set (flag ∷ []) rest))

-- where the words after a number begin
words_passed : (words : List (Bor (List ℕ))) (at next : ℕ) (key : Word) (flag : Bool) → at ≤ length words → flag ≡ stands_first key (texts (drop at words)) → next ≡ cond flag (at + 1) at
    → (next ≤ length words) × (texts (drop next words) ≡ passed flag (texts (drop at words)))
words_passed words at next key false within is goes = (omega arith, ap (λ n. texts (drop n words)) goes)
words_passed words at next key true within is goes =
    elim (cases_lt at (length words)) [
      | inl inside ↦ (
          let more = texts_more words at (record { ref_ptr = (0, 0); now = [] }) inside in
          (omega arith, ap (λ n. texts (drop n words)) goes ∙ sym (ap (drop 1) more)))
      | inr past ↦ (
          let none : true ≡ false = is ∙ ap (stands_first key) (texts_none words at past) in
          absurd (cc))
    ]

module _ (count : ℕ) (words : List (Bor (List ℕ))) (total : Option (List Bool)) where
  -- one event more
  pub flags_goes : (number at next : ℕ) (set grown : List Bool) (flag : Bool) → number < count → at ≤ length words → flag ≡ stands_first (number_text number) (texts (drop at words))
      → next ≡ cond flag (at + 1) at → grown ≡ set ++ flag ∷ [] → in_front set (flags_in (count - number) number (texts (drop at words))) ≡ total
      → (next ≤ length words) × (in_front grown (flags_in (count - (number + 1)) (number + 1) (texts (drop next words))) ≡ total)
  flags_goes number at next set grown flag h within is goes grows so_far =
      let left : count - number ≡ suc (count - (number + 1)) = omega arith in
      let p = words_passed words at next (number_text number) flag within is goes in
      let step = one_flag (count - (number + 1)) number (texts (drop at words)) flag is in (
        p.0,
        rw (grows, p.1) (sym (flag_in_front set flag (flags_in (count - (number + 1)) (number + 1) (passed flag (texts (drop at words)))))
            ∙ sym (ap (in_front set) step) ∙ ap (λ n. in_front set (flags_in n number (texts (drop at words)))) (sym left) ∙ so_far),
      )

  -- all events were looked at, and no word is left
  pub flags_done : (number at : ℕ) (set : List Bool) → count ≤ number → length words ≤ at → in_front set (flags_in (count - number) number (texts (drop at words))) ≡ total → Some set ≡ total
  flags_done number at set h past so_far =
      let none : count - number ≡ 0 = omega arith in
      ap (λ ys. Some ys) (sym (append-nil set)) ∙ sym (ap (λ ws. in_front set (flags_in 0 number ws)) (texts_none words at past)) ∙ ap (λ n. in_front set (flags_in n number (texts (drop at words)))) (sym none) ∙ so_far

  -- a word is left
  pub flags_left : (number at : ℕ) (set : List Bool) → count ≤ number → at < length words → in_front set (flags_in (count - number) number (texts (drop at words))) ≡ total → None ≡ total
  flags_left number at set h inside so_far =
      let none : count - number ≡ 0 = omega arith in
      let more = texts_more words at (record { ref_ptr = (0, 0); now = [] }) inside in
      sym (ap (λ ws. in_front set (flags_in 0 number ws)) more) ∙ ap (λ n. in_front set (flags_in n number (texts (drop at words)))) (sym none) ∙ so_far
