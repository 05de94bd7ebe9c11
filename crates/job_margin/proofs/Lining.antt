-- The line of a margin in its pieces, and the lines of numbers one after another.
use Rattle.std.proofs.Common.{◌≡◌, ◌+◌, ◌<◌, ◌≤◌, ℕ, zero, suc, List, [], ◌∷◌, ◌++◌, length, get_or, drop, refl, sym, ap, ◌∙◌, arith, append-nil, append_assoc}
use Rattle.std.specs.Prelude.{zip}
use Rattle.std.specs.List.{flat_map}
use Rattle.std.proofs.lemmas.Grind.{flat_map-append}
use Rattle.line_words.specs.Words.{Word}
use Rattle.line_words.specs.Lines.{ended, line_of, spaced}
use Rattle.line_words.proofs.Printing.{join_spaced}
use Rattle.origin.specs.NotesKept.{NotesKept}
use Rattle.moves.specs.declared.number_seen.NumberSeen.{NumberSeen}
use Rattle.job_margin.specs.Step.{numbers_text}
use Rattle.job_margin.specs.Text.{margin_line, margins_of}
use Rattle.job_margin.specs.declared.number_found.NumberFound.{NumberFound}
use Rattle.itv_base.proofs.Lists.{drop_one}

-- ---- a line

words_are : (which amount number range : Word) (row note : List Word)
    → line_of (which ∷ amount ∷ number ∷ range ∷ (row ++ note)) ≡ which ++ (spaced amount ++ (spaced number ++ (spaced range ++ (flat_map spaced row ++ flat_map spaced note))))
words_are which amount number range row note =
    join_spaced which (amount ∷ number ∷ range ∷ (row ++ note))
    ∙ ap (λ l. which ++ (spaced amount ++ (spaced number ++ (spaced range ++ l)))) (flat_map-append spaced row note)

joined : (s w a n r o m t : List ℕ) → (((((s ++ w) ++ a) ++ (n ++ r)) ++ o) ++ m) ++ t ≡ s ++ ((w ++ (a ++ (n ++ (r ++ (o ++ m))))) ++ t)
joined s w a n r o m t = simp append_assoc

-- the line in its pieces, after a text
pub line_is : (which amount number range : Word) (row note : List Word) (start a b c d e end : List ℕ) → a ≡ start ++ which → b ≡ a ++ spaced amount → c ≡ b ++ (spaced number ++ spaced range)
    → d ≡ c ++ flat_map spaced row → e ≡ d ++ flat_map spaced note → end ≡ e ++ 10 ∷ [] → end ≡ start ++ ended (line_of (which ∷ amount ∷ number ∷ range ∷ (row ++ note)))
line_is which amount number range row note start a b c d e end is_a is_b is_c is_d is_e is_end =
    is_end ∙ ap (λ t. t ++ 10 ∷ []) (is_e ∙ ap (λ t. t ++ flat_map spaced note) (is_d ∙ ap (λ t. t ++ flat_map spaced row)
    (is_c ∙ ap (λ t. t ++ (spaced number ++ spaced range)) (is_b ∙ ap (λ t. t ++ spaced amount) is_a))))
    ∙ joined start which (spaced amount) (spaced number) (spaced range) (flat_map spaced row) (flat_map spaced note) (10 ∷ [])
    ∙ ap (λ l. start ++ ended l) (sym (words_are which amount number range row note))

-- ---- numbers

-- the lines of the number at a place stand after a text
pub numbers_step : (noted : NotesKept) (whole text next : List ℕ) (seen : List NumberSeen) (found : List NumberFound) (k : ℕ) (s d : NumberSeen) (f e : NumberFound) → k < length seen → k < length found
    → s ≡ get_or seen k d → f ≡ get_or found k e → text ++ numbers_text noted (drop k seen) (drop k found) ≡ whole → next ≡ text ++ flat_map (margin_line noted s) (margins_of f)
    → next ++ numbers_text noted (drop (k + 1) seen) (drop (k + 1) found) ≡ whole
numbers_step noted whole text next seen found k s d f e within have is_s is_f before is_next =
    let lines : List ℕ = flat_map (margin_line noted s) (margins_of f) in
    let others : List ℕ = numbers_text noted (drop (k + 1) seen) (drop (k + 1) found) in
    let more : numbers_text noted (drop k seen) (drop k found) ≡ lines ++ others = rw (drop_one seen k s d within is_s, drop_one found k f e have is_f) refl in
    ap (λ t. t ++ others) is_next ∙ (append_assoc text lines others ∙ (ap (λ t. text ++ t) (sym more) ∙ before))

none_left : {A B : Type 0} (xs : List A) (ys : List B) → ys ≡ [] → zip xs ys ≡ []
none_left [] ys e = refl
none_left (x ∷ xs) ys e = rw e refl

drop_all : {A : Type 0} (xs : List A) (k : ℕ) → length xs ≤ k → drop k xs ≡ []
drop_all [] zero h = refl
drop_all [] (suc k) h = refl
drop_all (x ∷ xs) zero h = absurd (omega (arith, h))
drop_all (x ∷ xs) (suc k) h = drop_all xs k (omega (arith, h))

-- nothing is left behind the last number of which something is found
pub numbers_end : (noted : NotesKept) (whole text : List ℕ) (seen : List NumberSeen) (found : List NumberFound) (k : ℕ) → length found ≤ k
    → text ++ numbers_text noted (drop k seen) (drop k found) ≡ whole → text ≡ whole
numbers_end noted whole text seen found k past before =
    let none : numbers_text noted (drop k seen) (drop k found) ≡ [] = ap (flat_map (λ (both : NumberSeen × NumberFound). flat_map (margin_line noted both.0) (margins_of both.1))) (none_left (drop k seen) (drop k found) (drop_all found k past)) in
    sym (append-nil text) ∙ (ap (λ t. text ++ t) (sym none) ∙ before)
