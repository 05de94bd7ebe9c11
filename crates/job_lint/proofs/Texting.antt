-- Texts of pieces, of places and of lines.
use Rattle.std.proofs.Common.{◌≡◌, ℕ, zero, suc, ◌+◌, ◌<◌, ℤ, pos, negsuc, neg_ℤ, ◌<ℤ◌, ◌≤ℤ◌, Bool, true, false, List, [], ◌∷◌, ◌++◌, length, get_or, drop, map, refl, sym, ap, ◌∙◌, append_assoc, append-nil, add-one, drop-cons, arith}
use Rattle.std.specs.Prelude.{if◌then◌else◌, codes, ◌||◌}
use Rattle.std.specs.List.{filter, flat_map, list_any}
use Rattle.std.proofs.lemmas.Int.{ints}
use Rattle.std.proofs.lemmas.List.{at_drop_more}
use Rattle.itv_base.specs.Numerals.{number_text, signed_text}
use Rattle.line_words.specs.Lines.{spaced}
use Rattle.line_words.specs.Words.{Word}
use Rattle.line_words.proofs.Putting.{spaced_two}
use Rattle.job_lint.specs.Text.{both_words, stroke_between, word_if_any}

-- ---- pieces

-- one word after a space
pub one_spaced : (word : Word) → (32 ∷ []) ++ word ≡ spaced word
one_spaced word = refl

-- a word of two pieces after a space
pub two_spaced : (first other : Word) → spaced first ++ spaced other ≡ spaced (first ++ (32 ∷ other))
two_spaced first other = refl

-- ---- bytes that can be printed

module _ (p : ℕ → Bool) where
  -- the bytes from a place on: the one there, if it can be printed, and the others
  filter_next : (x : ℕ) (xs : List ℕ) (is : Bool) → (if is then x ∷ xs else xs) ≡ (if is then x ∷ [] else []) ++ xs
  filter_next x xs true = refl
  filter_next x xs false = refl

  pub printed_more : (xs : List ℕ) (k : ℕ) → k < length xs → filter p (drop k xs) ≡ (if p (get_or xs k 0) then get_or xs k 0 ∷ [] else []) ++ filter p (drop (k + 1) xs)
  printed_more xs k within = at_drop_more (filter p) xs k 0 within ∙ filter_next (get_or xs k 0) (filter p (drop (k + 1) xs)) (p (get_or xs k 0))

  -- no byte can be printed
  none_first : (x : ℕ) (xs : List ℕ) (is : Bool) → (list_any p xs ≡ false → filter p xs ≡ []) → (is || list_any p xs) ≡ false → (if is then x ∷ filter p xs else filter p xs) ≡ []
  none_first x xs true later e = absurd (cc e)
  none_first x xs false later e = later e

  pub none_printed : (xs : List ℕ) → list_any p xs ≡ false → filter p xs ≡ []
  none_printed [] none = refl
  none_printed (x ∷ xs) none = none_first x xs (p x) (λ e. none_printed xs e) none

  -- some byte can be printed
  some_first : (x : ℕ) (xs : List ℕ) (is : Bool) → (list_any p xs ≡ true → word_if_any (filter p xs) ≡ filter p xs ∷ []) → (is || list_any p xs) ≡ true
      → word_if_any (if is then x ∷ filter p xs else filter p xs) ≡ (if is then x ∷ filter p xs else filter p xs) ∷ []
  some_first x xs true later e = refl
  some_first x xs false later e = later e

  pub some_printed : (xs : List ℕ) → list_any p xs ≡ true → word_if_any (filter p xs) ≡ filter p xs ∷ []
  some_printed [] some = absurd (cc some)
  some_printed (x ∷ xs) some = some_first x xs (p x) (λ e. some_printed xs e) some

  pub printed_word : (xs : List ℕ) → list_any p xs ≡ true → (32 ∷ []) ++ filter p xs ≡ flat_map spaced (word_if_any (filter p xs))
  printed_word xs some = sym (ap (flat_map spaced) (some_printed xs some) ∙ append-nil (spaced (filter p xs)))

  -- a stroke stands between two texts that have something to print
  stroke_two : (xs ys : List ℕ) → word_if_any xs ≡ xs ∷ [] → word_if_any ys ≡ ys ∷ [] → stroke_between xs ys ≡ codes "/" ∷ []
  stroke_two [] ys x y = absurd (cc x)
  stroke_two (a ∷ xs) [] x y = absurd (cc y)
  stroke_two (a ∷ xs) (b ∷ ys) x y = refl

  pub stroke_both : (xs ys : List ℕ) → list_any p xs ≡ true → list_any p ys ≡ true → stroke_between (filter p xs) (filter p ys) ≡ codes "/" ∷ []
  stroke_both xs ys x y = stroke_two (filter p xs) (filter p ys) (some_printed xs x) (some_printed ys y)

  stroke_none_after : (xs : List ℕ) → stroke_between xs [] ≡ []
  stroke_none_after [] = refl
  stroke_none_after (x ∷ xs) = refl

  pub stroke_first : (xs ys : List ℕ) → list_any p xs ≡ false → stroke_between (filter p xs) (filter p ys) ≡ []
  stroke_first xs ys none = rw (none_printed xs none) refl

  pub stroke_other : (xs ys : List ℕ) → list_any p ys ≡ false → stroke_between (filter p xs) (filter p ys) ≡ []
  stroke_other xs ys none = rw (none_printed ys none) (stroke_none_after (filter p xs))

-- the words of two texts with a stroke between them
pub both_spaced : (first other : List ℕ)
    → flat_map spaced (word_if_any first) ++ (flat_map spaced (stroke_between first other) ++ flat_map spaced (word_if_any other)) ≡ flat_map spaced (both_words first other)
both_spaced first other =
    ap (λ rest. flat_map spaced (word_if_any first) ++ rest) (spaced_two (stroke_between first other) (word_if_any other))
    ∙ spaced_two (word_if_any first) (stroke_between first other ++ word_if_any other)

-- ---- numbers

-- minus a number above 0, and minus one that is not
pub minus_above : (value : ℤ) (size : ℕ) → pos 0 <ℤ value → value ≡ pos size → codes "-" ++ number_text size ≡ signed_text (neg_ℤ value)
minus_above value zero above is = absurd (omega (arith, ints))
minus_above value (suc size) above is = rw is refl

pub minus_below : (value : ℤ) (size : ℕ) → neg_ℤ value ≡ pos size → number_text size ≡ signed_text (neg_ℤ value)
minus_below value size is = rw is refl
