-- The bytes at the front of a text that pass a test, and the text after them.
use Rattle.std.proofs.Common.{◌≡◌, ℕ, ◌+◌, Bool, true, false, not, cond, List, [], ◌∷◌, ◌++◌, drop, refl, sym, ap, ◌∙◌}
use Rattle.std.specs.List.{list_all, take_while, prefix_len}
use Rattle.std.proofs.Math.Numerals.{one-add}
use Rattle.std.proofs.lemmas.Bool.{and_parts, not-true}
use Rattle.std.proofs.lemmas.List.{take-append-drop}
use Rattle.std.proofs.lemmas.List.Sums.{take_while-cons}
use Rattle.itv_base.specs.Cuts.{after_while}

-- no byte that passes stands first
abbrev pub stops : (ℕ → Bool) → List ℕ → Bool
stops p [] = true
stops p (b ∷ text) = not (p b)

after_while-cons : (p : ℕ → Bool) (b : ℕ) (text : List ℕ) → after_while p (b ∷ text) ≡ cond (p b) (after_while p text) (b ∷ text)
after_while-cons p b text = after_at (p b)
  where
    after_at : (passes : Bool) → drop (cond passes (1 + prefix_len p text) 0) (b ∷ text) ≡ cond passes (after_while p text) (b ∷ text)
    after_at true = rw one-add refl
    after_at false = refl

pub front_of_run : (p : ℕ → Bool) (run rest : List ℕ) → list_all p run ≡ true → stops p rest ≡ true → take_while p (run ++ rest) ≡ run
front_of_run p [] [] all ends = refl
front_of_run p [] (b ∷ rest) all ends = take_while-cons p b rest ∙ rw (not-true (p b) ends) refl
front_of_run p (b ∷ run) rest all ends =
    let q = and_parts (p b) (list_all p run) all in
    take_while-cons p b (run ++ rest) ∙ rw q.0 (ap (λ xs. b ∷ xs) (front_of_run p run rest q.1 ends))

pub rest_of_run : (p : ℕ → Bool) (run rest : List ℕ) → list_all p run ≡ true → stops p rest ≡ true → after_while p (run ++ rest) ≡ rest
rest_of_run p [] [] all ends = refl
rest_of_run p [] (b ∷ rest) all ends = after_while-cons p b rest ∙ rw (not-true (p b) ends) refl
rest_of_run p (b ∷ run) rest all ends =
    let q = and_parts (p b) (list_all p run) all in
    after_while-cons p b (run ++ rest) ∙ rw q.0 (rest_of_run p run rest q.1 ends)

pub run_whole : (p : ℕ → Bool) (text : List ℕ) → text ≡ take_while p text ++ after_while p text
run_whole p text = sym (take-append-drop (prefix_len p text) text)
