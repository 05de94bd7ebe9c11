-- How many characters may be a mark.
use Rattle.std.proofs.Common.{◌≡◌, ◌==◌, ℕ, zero, suc, ◌+◌, ◌<◌, ◌≤◌, Bool, true, false, ◌||◌, cond, List, [], ◌∷◌, length, filter, All, eqb, nat_eq, refl, ap, sym, ◌∙◌, arith}
use Rattle.std.specs.List.{IsDistinct, list_any, range_with_len}
use Rattle.std.specs.Cmp.{nat_eq_equiv}
use Rattle.std.proofs.lemmas.Bool.{and_parts, eqb-true, eqb-false, leb-true}
use Rattle.std.proofs.lemmas.List.Elements.{All-contains}
use Rattle.std.proofs.lemmas.Map.Made.{length-le_from_is_member}
use Rattle.std.proofs.lemmas.Map.Views.{Contains-from_any}
use Rattle.std.specs.Prelude.{nat_le, not}
use Rattle.std.specs.Char.{is_ascii_graphic}
use Rattle.itv_base.specs.Characters.{is_mark}
use Rattle.sheet.specs.declared.mark.TheConstants.{MAX_MARKS}

-- a number of a range is found in it
in_range : (q a n : ℕ) → a ≤ q → q < a + n → list_any (eqb q) (range_with_len a n) ≡ true
in_range q a zero from below = absurd (omega arith)
in_range q a (suc n) from below =
    let here : (b : Bool) → eqb q a ≡ b → (b || list_any (eqb q) (range_with_len (a + 1) n)) ≡ true =
    λ b is. elim b as (λ v. eqb q a ≡ v → (v || list_any (eqb q) (range_with_len (a + 1) n)) ≡ true)
    [ true ↦ λ _. refl | false ↦ λ other. let apart = eqb-false q a other in in_range q (a + 1) n (omega arith) (omega arith) ] is in
    here (eqb q a) refl

-- an element that passes a test is found among the elements that pass it
found_by : (p : ℕ → Bool) (q x : ℕ) (rest : List ℕ) (passes same : Bool) → p x ≡ passes → eqb q x ≡ same → p q ≡ true → (list_any (eqb q) rest ≡ true → list_any (eqb q) (filter p rest) ≡ true)
    → (same || list_any (eqb q) rest) ≡ true → list_any (eqb q) (cond passes (x ∷ filter p rest) (filter p rest)) ≡ true
found_by p q x rest true true px is pq more found = rw is refl
found_by p q x rest true false px is pq more found = rw is (more found)
found_by p q x rest false true px is pq more found = let same : q ≡ x = eqb-true q x is in let no : true ≡ false = sym pq ∙ ap p same ∙ px in cc
found_by p q x rest false false px is pq more found = more found

found_filtered : (p : ℕ → Bool) (q : ℕ) (xs : List ℕ) → p q ≡ true → list_any (eqb q) xs ≡ true → list_any (eqb q) (filter p xs) ≡ true
found_filtered p q [] pq found = found
found_filtered p q (x ∷ xs) pq found = found_by p q x xs (p x) (eqb q x) refl refl pq (found_filtered p q xs pq) found

-- the characters that may be a mark
abbrev all_marks : List ℕ
all_marks = filter is_mark (range_with_len 0 127)

counted : length all_marks ≡ MAX_MARKS
counted = refl

mark_below : (b : ℕ) → is_mark b ≡ true → b < 127
mark_below b mark =
    let graphic = and_parts (is_ascii_graphic b) (not (b == 46)) mark in
    let most = and_parts (nat_le 33 b) (nat_le b 126) graphic.0 in
    omega (arith, leb-true b 126 most.1)

-- different marks are no more than these
pub few_marks : (names : List ℕ) → IsDistinct nat_eq names → All (λ b. is_mark b ≡ true) names → length names ≤ MAX_MARKS
few_marks names distinct named =
    rw counted at (length-le_from_is_member nat_eq_equiv names all_marks distinct
    (λ q found. let mark : is_mark q ≡ true = All-contains (λ b. is_mark b ≡ true) names q named (Contains-from_any eqb-true q names found) in
    found_filtered is_mark q (range_with_len 0 127) mark (in_range q 0 127 (omega arith) (omega (arith, mark_below q mark)))))
